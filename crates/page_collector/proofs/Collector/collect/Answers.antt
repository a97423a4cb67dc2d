use Rattle.std.proofs.Common.{◌≡◌, List, ℕ, length, refl, sym, ap, ◌∙◌, arith}
use Rattle.packet.specs.Packet.{reading_of, packet_of}
use Rattle.packet.specs.declared.DiscoveryRecord.{DiscoveryRecord}
use Rattle.packet.specs.declared.Packet.{Packet}
use Rattle.packet.specs.declared.Packet.TheVariants.{Discovery}
use Rattle.packet.specs.declared.Reading.{Reading}
use Rattle.packet.proofs.Whole.{read}
use Rattle.page_collector.specs.Collect.{After, Answer, after, collected_of, collect_by, collect_of}
use Rattle.page_collector.specs.declared.Collector.{Collector}
use Rattle.page_collector.proofs.Read.{page_within, part_short}
use Rattle.page_collector.proofs.Collector.collect.Goals as goal

-- an answer by what the datagram is read as
told : (own : Collector) (d memory list : List ℕ) (r : Reading Packet) (x : Packet) (y : After) → r ≡ reading_of d → r.packet ≡ x →
    y ≡ collect_by own d r.cid memory list x →
    y ≡ collect_of own d memory list
unfolding collect_of
told own d memory list r x y e is f =
    f
    ∙ sym (ap (collect_by own d r.cid memory list) is)
    ∙ ap (λ (a : Reading Packet). collect_by own d a.cid memory list a.packet) e

is_read : (d : List ℕ) (r : Reading Packet) (x : DiscoveryRecord) → r ≡ reading_of d → r.packet ≡ Discovery x → packet_of d ≡ Discovery x
is_read d r x e is = sym (read d) ∙ sym (ap (λ (r : Reading Packet). r.packet) e) ∙ is

pub take_in-requires-clause-page_bound : goal.take_in-requires-clause-page_bound
take_in-requires-clause-page_bound c =
    (page_within _ c.in-Discovery.x (is_read _ _ _ c.parse-reading.ensures c.in-Discovery.is)).0

pub take_in-requires-clause-universes_len_bound : goal.take_in-requires-clause-universes_len_bound
take_in-requires-clause-universes_len_bound c =
    let span = c.in-Discovery.x.universes in
    let few = (page_within _ c.in-Discovery.x (is_read _ _ _ c.parse-reading.ensures c.in-Discovery.is)).1 in
    omega (arith, few, ap length c.shown-universes.ensures, part_short c.args.datagram.now span.start span.len)

pub returns-in-Discovery : goal.returns-in-Discovery
returns-in-Discovery c =
    told c.args.self.now c.args.datagram.now c.args.memory.now c.args.list.now _ _ _ c.parse-reading.ensures c.in-Discovery.is
    (rw c.shown-universes.ensures at c.take_in.ensures)

pub returns-in-Data : goal.returns-in-Data
returns-in-Data c = let a = c.args in
    told a.self.now a.datagram.now a.memory.now a.list.now _ _ _ c.parse-reading.ensures c.in-Data.is
    (ap (λ (x : Answer). after a.memory.now a.list.now (collected_of a.self.now x)) c.refuse.ensures)

pub returns-in-Synchronization : goal.returns-in-Synchronization
returns-in-Synchronization c = let a = c.args in
    told a.self.now a.datagram.now a.memory.now a.list.now _ _ _ c.parse-reading.ensures c.in-Synchronization.is
    (ap (λ (x : Answer). after a.memory.now a.list.now (collected_of a.self.now x)) c.refuse-in-Synchronization.ensures)

pub returns-in-Refused : goal.returns-in-Refused
returns-in-Refused c =
    told c.args.self.now c.args.datagram.now c.args.memory.now c.args.list.now _ _ _ c.parse-reading.ensures c.in-Refused.is refl
