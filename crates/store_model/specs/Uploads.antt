-- What a writer's commands test of its files.
use Rattle.std.specs.Prelude.{ℕ, ◌+◌, Bool, not, ◌||◌, List, length, nat_lt, Result}
use Rattle.std.specs.List.{list_any}
use Rattle.std.specs.Str.{bytes_eq}
use Rattle.store_types.specs.declared.refusal.Refusal.{Refusal}
use Rattle.store_types.specs.declared.refusal.Refusal.TheVariants.{Exists, TooMany}
use Rattle.store_types.specs.Chain.Refusing.{◌>>=◌, unless}
use Rattle.store_model.specs.Store.{Writer}

-- the writer has an uploaded or an open file of that name
abbrev pub has_file : List ℕ → Writer → Bool
has_file name w = list_any (λ f. bytes_eq f.name name) w.files || list_any (λ b. bytes_eq b.name name) w.begun

-- the name is free, and there is room for one more file
abbrev pub want_room : List ℕ → Writer → Result (Unit {0}) Refusal
want_room name w = do
  _ ← unless Exists (not (has_file name w))
  unless (TooMany 64) (nat_lt (length w.files + length w.begun) 64)
