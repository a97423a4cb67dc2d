-- What the writers go by: a write's checks one after the other, and how long packets are. Assumes nothing.
use Rattle.std.proofs.Common.{◌≡◌, ℕ, ◌≤◌, List, [], ◌∷◌, ◌++◌, length, drop, IsErrAnd, Ok, Err, sym, refl, ap, ◌∙◌, append_assoc, zero-add, arith, length-append}
use Rattle.std.proofs.lemmas.Result.{err_from_is_err_and}
use Rattle.std.proofs.lemmas.List.Edits.{sets}
use Rattle.refusal.specs.Check.{Numbered, Checked, reading, checked_of}
use Rattle.refusal.specs.declared.Refusal.{Refusal}
use Rattle.refusal.proofs.Laws.{all_hold, after_check, check_first, check_last, handed_on, gone_on, read_as}
use Rattle.name.specs.Name.{written_name_checks}
use Rattle.name.proofs.Laws.{bytes_64}
use Rattle.dmp.specs.Layer.{dmp_bytes}
use Rattle.discovery.specs.Layer as discoveryLayer
use Rattle.discovery.specs.declared.DiscoveryFields.{DiscoveryFields}
use Rattle.discovery.proofs.Laws.{bytes_length}
use Rattle.wire.proofs.Laws.{sets_then, sets_front}
use Rattle.framing.specs.Bytes.{data_framing_bytes}
use Rattle.framing.specs.declared.DataFields.{DataFields}
use Rattle.extended.specs.Bytes.{synchronization_framing_bytes, discovery_framing_bytes}
use Rattle.extended.specs.declared.synchronization.SynchronizationFields.{SynchronizationFields}
use Rattle.pack.specs.Writing.{room_check, data_bytes, synchronization_bytes, discovery_bytes, data_length, synchronization_length, discovery_length, Packed, packed_of, after_pack}

-- the checks of a write that has room, by what the name is found to be
module _ (len room : ℕ) (name : List ℕ) (rest : List Numbered) (h : len ≤ room) where
  by_name : checked_of (room_check len room ∷ (written_name_checks name ++ rest)) ≡ after_check Err (checked_of rest) (checked_of (written_name_checks name))
  unfolding checked_of
  by_name =
      let own = room_check len room ∷ [] in
      check_first Err own (written_name_checks name) rest (Ok tt)
      ∙ all_hold Err own (after_check Err (checked_of rest) (checked_of (written_name_checks name))) (h, tt)

  pub name_refused : {r : Refusal} {x : Checked} → Err r ≡ checked_of (written_name_checks name) → IsErrAnd x (λ (e : Refusal). e ≡ r) →
      x ≡ checked_of (room_check len room ∷ (written_name_checks name ++ rest))
  name_refused e f = handed_on (λ t. checked_of rest) e f ∙ sym by_name

  pub name_passed : {x : Checked} → Ok tt ≡ checked_of (written_name_checks name) → x ≡ checked_of rest →
      x ≡ checked_of (room_check len room ∷ (written_name_checks name ++ rest))
  name_passed e f = gone_on (λ t. checked_of rest) e f ∙ sym by_name

-- a write's answer, by what its checks come to
by_checks : (cs : List Numbered) (len : ℕ) → packed_of cs len ≡ after_check Err (Ok len) (checked_of cs)
unfolding packed_of reading
by_checks cs len = check_last Err [] cs (Ok len)

-- a write that passes has room
has_room : (len room : ℕ) (cs : List Numbered) → Ok tt ≡ checked_of (room_check len room ∷ cs) → len ≤ room
unfolding checked_of
has_room len room cs e = (read_as (room_check len room ∷ cs) tt tt (sym e)).0.0

-- a write whose checks refuse tells that, and leaves the buffer; one whose checks pass tells its length and has the packet in the buffer's front
pub left_as_found : (x : Packed) (r : Refusal) (packet buf : List ℕ) → IsErrAnd x (λ (e : Refusal). e ≡ r) → buf ≡ after_pack x packet buf
left_as_found x r packet buf f = ap (λ (y : Packed). after_pack y packet buf) (sym (err_from_is_err_and x f).1)

pub write_refused : (cs : List Numbered) (len : ℕ) {x : Packed} {r : Refusal} → Err r ≡ checked_of cs → IsErrAnd x (λ (e : Refusal). e ≡ r) → x ≡ packed_of cs len
write_refused cs len e f = handed_on (λ t. Ok len) e f ∙ sym (by_checks cs len)

pub write_passed : (len : ℕ) (rest : List Numbered) (buf after packet : List ℕ) → Ok tt ≡ checked_of (room_check len (length buf) ∷ rest) →
    length packet ≡ len → after ≡ sets buf 0 packet → (Ok len ≡ packed_of (room_check len (length buf) ∷ rest) len) × (after ≡ packet ++ drop len buf)
write_passed len rest buf after packet e long put =
    let cs = room_check len (length buf) ∷ rest in (
      gone_on (λ t. Ok len) e refl ∙ sym (by_checks cs len),
      put ∙ sets_front packet buf len long (has_room len (length buf) rest e),
    )

-- the root layer's bytes, and the framing layer where they end
pub root_then : (l head cid frame : List ℕ) → length head ≡ 22 → length cid ≡ 16 →
    sets l 0 (head ++ (cid ++ frame)) ≡ sets (sets l 0 (head ++ cid)) 38 frame
root_then l head cid frame p q =
    let e : length (head ++ cid) ≡ 38 = simp length-append (omega arith) in
    rw (← append_assoc head cid frame) (sets_then (head ++ cid) frame l 0 38 e ∙ rw zero-add)

-- the same, each written into what the one before it left
pub framed_then : (l rooted framed head cid frame : List ℕ) → length head ≡ 22 → length cid ≡ 16 →
    rooted ≡ sets l 0 (head ++ cid) → framed ≡ sets rooted 38 frame → framed ≡ sets l 0 (head ++ (cid ++ frame))
framed_then l rooted framed head cid frame p q e f = f ∙ ap (λ (b : List ℕ). sets b 38 frame) e ∙ sym (root_then l head cid frame p q)

module _ (cid : List ℕ) (h : length cid ≡ 16) where
  pub data_long : (f : DataFields) (name values : List ℕ) → length (data_bytes cid f name values) ≡ data_length values
  unfolding data_bytes data_framing_bytes dmp_bytes
  data_long f name values = simp (length-append, bytes_64) (omega arith)

  pub synchronization_long : (f : SynchronizationFields) → length (synchronization_bytes cid f) ≡ synchronization_length
  unfolding synchronization_bytes synchronization_framing_bytes
  synchronization_long f = simp length-append (omega arith)

  pub discovery_long : (f : DiscoveryFields) (name us : List ℕ) → length (discovery_bytes cid f name us) ≡ discovery_length us
  unfolding discovery_bytes discovery_framing_bytes discoveryLayer.discovery_bytes
  discovery_long f name us = simp (length-append, bytes_64, bytes_length) (omega arith)
