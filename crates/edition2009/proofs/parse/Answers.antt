use Prim.Native.Nat.{ℕ}
use mathlib.Core.List.{List}
use mathlib.Core.Path.{◌≡◌, refl, sym, ap, ◌∙◌}
use Rattle.refusal.proofs.Laws.{by_answer}
use Rattle.packet.specs.Packet.{cid_in}
use Rattle.packet.proofs.Laws.{cid_known}
use Rattle.edition2009.specs.Packet.{packet2009_of, with_cid2009, reading2009_of}
use Rattle.packet.specs.declared.DataRecord.{DataRecord}
use Rattle.edition2009.specs.declared.DataFields2009.{DataFields2009}
use Rattle.edition2009.specs.declared.Packet2009.TheVariants.{Data, Refused}
use Rattle.edition2009.proofs.Laws.{packet_within}
use Rattle.edition2009.proofs.parse.Goals as goal

pub returns-in-Refused : goal.returns-in-Refused
unfolding reading2009_of
returns-in-Refused c = by_answer (with_cid2009 c.args.datagram.now) (packet2009_of c.args.datagram.now) (Refused _) (sym c.parse_packet.ensures ∙ c.in-Refused.is) refl

-- a data packet, beside the CID that was copied
beside : (d cid : List ℕ) (x : DataRecord DataFields2009) → packet2009_of d ≡ Data x → cid ≡ cid_in d → record { cid = cid; packet = Data x } ≡ reading2009_of d
unfolding reading2009_of
beside d cid x e copied =
    by_answer (with_cid2009 d) (packet2009_of d) (Data x) e
    (ap (λ (bytes : List ℕ). record { cid = bytes; packet = Data x }) (copied ∙ cid_known d (packet_within d x e)))

pub returns-in-Data : goal.returns-in-Data
returns-in-Data c = beside _ _ _ (sym c.parse_packet.ensures ∙ c.in-Data.is) c.cid.ensures
