-- Pages that were kept, and the list that they make.
use Rattle.std.specs.Prelude.{ℕ, List, [], ◌∷◌, ◌++◌}

-- a page that is not there, or its universes
pub data Page : Type 0 where
  missing : Page
  kept : List ℕ → Page

-- all pages joined in page order, or nothing as long as one is missing
abbrev pub join_two : Page → Page → Page
join_two missing q = missing
join_two (kept us) missing = missing
join_two (kept us) (kept vs) = kept (us ++ vs)

unfoldable pub join_all : List Page → Page
join_all [] = kept []
join_all (p ∷ ps) = join_two p (join_all ps)
