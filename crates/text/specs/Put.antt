-- What it means to put bytes behind a text.
use Rattle.std.specs.Prelude.{ℕ, ◌+◌, min, ◌≡◌, List, length}
use Rattle.std.proofs.lemmas.List.Edits.{sets}
use Rattle.text.specs.declared.Text.{Text}

-- no text, in the same buffer
abbrev pub emptied : Text → Text
emptied t = record t { len = 0 }

-- Bytes that run past the buffer's end are left out. The text then ends behind the bytes, or at the end where they run past it, in the same buffer.
pub record Put (before after : Text) (bytes : List ℕ) : Type 0 where
  pub written : after.bytes.now ≡ sets before.bytes.now before.len bytes
  pub place : after.len ≡ min (before.len + length bytes) (length before.bytes.now)
  pub same_buffer : after.bytes.ghost_name ≡ before.bytes.ghost_name
