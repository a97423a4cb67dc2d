-- Universe discovery packets: written and read again, copied out, ignored places, nothing else. Assumes nothing.
use Rattle.std.specs.Prelude.{Ok, Err}
use Prim.Native.Nat.{ℕ, ◌*◌, ◌/◌, ◌≤◌}
use mathlib.Core.Path.{◌≡◌, refl, sym, ap, ◌∙◌}
use mathlib.Core.List.{List, [], ◌∷◌, ◌++◌, append-nil}
use native.Mathlib.Omega.{arith}
use lib.ListN.{length, drop}
use Rattle.wire.specs.Bytes.{Bytes}
use Rattle.wire.specs.Fields.{be32}
use Rattle.wire.proofs.Laws.{sets_front}
use Rattle.refusal.specs.Check.{numbered, refusal, nowhere, ◌≤?◌}
use Rattle.refusal.proofs.Laws.{All, all_++, all_hold}
use Rattle.name.specs.Name.{written_name_checks, name_bytes}
use Rattle.discovery.specs.declared.DiscoveryFields.{DiscoveryFields}
use Rattle.discovery.specs.Universes.{order_checks}
use Rattle.packet.specs.Packet.{span, packet_of, reading_of}
use Rattle.parts.specs.Parts.{listed_at, universes_span, universes_in, copied_of, after_copy}
use Rattle.packet.specs.declared.Packet.{Packet}
use Rattle.pack.specs.Writing.{discovery_bytes, discovery_length, discovery_write_checks, count_check, packed_of, after_pack}
use Rattle.demands.specs.Content.{discovery_content, meaning}
use Rattle.demands.specs.Ignored.{AlikeDiscovery}
use Rattle.demands.specs.Limits.{ReadableDiscovery}
use Rattle.demands.proofs.Names.{named_written}
use Rattle.demands.proofs.Meaning.{discovery_meant}
use Rattle.demands.proofs.DiscoveryLayers.{record_with}
use Rattle.demands.proofs.DiscoveryPackets.{with, with_record, with_read, with_universes, with_content, packet_then, alike_is}
use Rattle.demands.proofs.DiscoveryOnly.{datagram_is}

-- Return: for every record within the readable limits and every buffer that holds its packet, writing accepts with the packet's length, and
-- reading the buffer as it is then returns that record: kind, CID, plain fields, the name's bytes, the universes.
pub return_discovery : (cid : List ℕ) (f : DiscoveryFields) (name us buf : List ℕ) → ReadableDiscovery cid f name us →
    discovery_length us ≤ length buf →
    (packed_of (discovery_write_checks (length buf) name us) (discovery_length us) ≡ Ok (discovery_length us))
    × (meaning (after_pack (Ok (discovery_length us)) (discovery_bytes cid f name us) buf) ≡ discovery_content cid f name us)
unfolding packed_of
return_discovery cid f name us buf r room =
    let rest = drop (discovery_length us) buf in
    let counted : All (count_check 512 (length us) ∷ order_checks us) = (r.few, r.ascending) in
    let all : All (discovery_write_checks (length buf) name us) =
    (room, all_++ (written_name_checks name) (count_check 512 (length us) ∷ order_checks us) r.named counted) in (
      all_hold Err (discovery_write_checks (length buf) name us) (Ok (discovery_length us)) all,
      rw (packet_then cid f name us rest) (with_content cid f name us (name_bytes name) (be32 0) rest r (named_written name r.named.0) refl),
    )

-- The universes that are copied out of it: as many as were written and these, and the numbers behind them as found.
pub copied_discovery : (cid : List ℕ) (f : DiscoveryFields) (name us buf out : List ℕ) → ReadableDiscovery cid f name us →
    discovery_length us ≤ length buf → length us ≤ length out →
    let d = after_pack (Ok (discovery_length us)) (discovery_bytes cid f name us) buf in
    (copied_of (packet_of d) (length out) ≡ Ok (length us))
    × (after_copy (Ok (length us)) (universes_in d) out ≡ us ++ drop (length us) out)
copied_discovery cid f name us buf out r room fits =
    let rest = drop (discovery_length us) buf in
    let named = named_written name r.named.0 in
    let d = discovery_bytes cid f name us ++ rest in
    let is : d ≡ with cid f name us (name_bytes name) (be32 0) rest = packet_then cid f name us rest in
    let e : packet_of d ≡ record_with f (length name) (length us) =
    ap packet_of is ∙ with_record cid f name us (name_bytes name) (be32 0) rest r named refl in
    let n = 2 * length us / 2 in
    let half : n ≡ length us = omega arith in
    let listed : universes_in d ≡ us =
    ap (λ (x : Packet). listed_at d (universes_span x)) e
    ∙ ap (λ (l : List ℕ). listed_at l (span 120 (2 * length us))) is
    ∙ with_universes cid f name us (name_bytes name) (be32 0) rest r named refl in (
      rw e (all_hold Err (numbered (n ≤? length out) (refusal 31 nowhere 0) ∷ []) (Ok n) (omega arith) ∙ rw half),
      rw listed (sets_front us out (length us) refl fits),
    )

-- Ignored places: any datagram that equals the packet outside its ignored places, with any bytes after it, is answered the same and means
-- the same.
pub ignored_discovery : (cid : List ℕ) (f : DiscoveryFields) (name us d : List ℕ) → ReadableDiscovery cid f name us →
    AlikeDiscovery name (discovery_bytes cid f name us) d →
    (reading_of d ≡ reading_of (discovery_bytes cid f name us)) × (meaning d ≡ discovery_content cid f name us)
ignored_discovery cid f name us d r like =
    let short : length name ≤ 63 = r.named.0 in
    let rest = drop (discovery_length us) d in
    let v = alike_is cid f name us r.cid_16 short d like in
    let nf = name ++ 0 ∷ v.0 in
    let whole : discovery_bytes cid f name us ≡ with cid f name us (name_bytes name) (be32 0) [] =
    sym (append-nil (discovery_bytes cid f name us)) ∙ packet_then cid f name us [] in (
      ap reading_of v.4
          ∙ with_read cid f name us nf v.1 rest r v.2 v.3
          ∙ sym (ap reading_of whole ∙ with_read cid f name us (name_bytes name) (be32 0) [] r (named_written name short) refl),
      ap meaning v.4 ∙ with_content cid f name us nf v.1 rest r v.2 v.3,
    )

-- Nothing else: a datagram of the packet's own size, its elements bytes, that is taken for the same record differs from the packet only in
-- ignored places.
pub nothing_else_discovery : (cid : List ℕ) (f : DiscoveryFields) (name us d : List ℕ) → length d ≡ discovery_length us → Bytes d →
    meaning d ≡ discovery_content cid f name us → AlikeDiscovery name (discovery_bytes cid f name us) d
nothing_else_discovery cid f name us d long b e =
    let m = discovery_meant d cid f name us e in
    datagram_is cid f name us d m.0 long b m.1 m.3 m.4 m.5 m.2
