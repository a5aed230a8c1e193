-- The rows after an act.
use Rattle.std.proofs.Common.{◌≡◌, ◌∙◌, ℕ, zero, suc, Bool, true, false, not, cond, ◌&&◌, List, [], ◌∷◌, filter, map, take, Option, Some, None, Result, Ok, Err, refl, sym, ap}
use Rattle.std.specs.Prelude.{IfOk}
use Rattle.std.specs.declared.sync.Arc.{Arc}
use Rattle.std.specs.declared.alloc.Global.{Global}
use Rattle.std.specs.declared.vec.Vec.{Vec}
use Rattle.store_types.specs.declared.names.SnapshotKey.{SnapshotKey}
use Rattle.store_types.specs.Names.{key_lt, same_key}
use Rattle.wire_commands.specs.declared.rows.ListRow.{ListRow}
use Rattle.wire_commands.specs.declared.reply.Reply.{Reply}
use Rattle.wire_commands.specs.declared.reply.Reply.TheVariants.{Done}
use Rattle.store_history.specs.declared.act.Act.{Act}
use Rattle.store_history.specs.declared.act.Answer.{Answer}
use Rattle.store_history.specs.Profile.{OnList, is_other_list, lists, profile, same_list, takes_out}
use Rattle.core_state.specs.declared.kept.Listed.{Listed}
use Rattle.core_state.specs.declared.kept.Session.{Session}
use Rattle.core_state.specs.declared.state.Core.{Core}
use Rattle.core_state.specs.Catalogue.{Lists, closed_by, forgotten_by, insert_listed, listed_by, listed_on, without_listed}
use Rattle.core_state.specs.Found.{is_behind as is_kept_behind}
use Rattle.core_state.specs.Kept.{KeptAt, kept_at}
use Rattle.core_admin.specs.Listings.{row_of as list_row_of, rows_behind as listed_behind}
use Rattle.listing_views.specs.declared.chunk.Chunk.{Chunk}
use Rattle.listing_views.specs.declared.listed.Listed as shown
use Rattle.listing_views.specs.Rows.{insert_row, is_behind, rows_behind, rows_without}
use Rattle.shared_store.specs.Views.{IsActedOn, IsNextAfter, is_done, is_listing, list_row, row_of, rows_of}

-- ---- a snapshot comes, and goes

pub rows_insert : (new : Listed) (xs : List Listed) → rows_of (insert_listed new xs) ≡ insert_row (row_of new.kept) (rows_of xs)
rows_insert new [] = refl
rows_insert new (x ∷ xs) = by_test (key_lt (new.kept).key (x.kept).key) (rows_insert new xs)
  where
    by_test : (b : Bool) → rows_of (insert_listed new xs) ≡ insert_row (row_of new.kept) (rows_of xs)
        → rows_of (cond b (new ∷ x ∷ xs) (x ∷ insert_listed new xs)) ≡ cond b (row_of new.kept ∷ row_of x.kept ∷ rows_of xs) (row_of x.kept ∷ insert_row (row_of new.kept) (rows_of xs))
    by_test true e = refl
    by_test false e = ap (λ (l : List shown.Listed). row_of x.kept ∷ l) e

pub rows_left : (key : SnapshotKey) (xs : List Listed) → rows_of (without_listed key xs) ≡ rows_without key (rows_of xs)
rows_left key [] = refl
rows_left key (x ∷ xs) = by_test (not (same_key (x.kept).key key)) (rows_left key xs)
  where
    by_test : (b : Bool) → rows_of (without_listed key xs) ≡ rows_without key (rows_of xs)
        → rows_of (cond b (x ∷ without_listed key xs) (without_listed key xs)) ≡ cond b (row_of x.kept ∷ rows_without key (rows_of xs)) (rows_without key (rows_of xs))
    by_test true e = ap (λ (l : List shown.Listed). row_of x.kept ∷ l) e
    by_test false e = e

-- ---- what is told of them

behind : (after : Option SnapshotKey) (xs : List Listed) → filter (is_behind after) (rows_of xs) ≡ rows_of (filter (λ x. is_kept_behind after x.kept) xs)
behind None [] = refl
behind None (x ∷ xs) = ap (λ (l : List shown.Listed). row_of x.kept ∷ l) (behind None xs)
behind (Some key) [] = refl
behind (Some key) (x ∷ xs) = by_test (key_lt key (x.kept).key) (behind (Some key) xs)
  where
    by_test : (b : Bool) → filter (is_behind (Some key)) (rows_of xs) ≡ rows_of (filter (λ (y : Listed). is_kept_behind (Some key) y.kept) xs)
        → cond b (row_of x.kept ∷ filter (is_behind (Some key)) (rows_of xs)) (filter (is_behind (Some key)) (rows_of xs))
        ≡ rows_of (cond b (x ∷ filter (λ (y : Listed). is_kept_behind (Some key) y.kept) xs) (filter (λ (y : Listed). is_kept_behind (Some key) y.kept) xs))
    by_test true e = ap (λ (l : List shown.Listed). row_of x.kept ∷ l) e
    by_test false e = e

first_rows : (n : ℕ) (xs : List Listed) → take n (rows_of xs) ≡ rows_of (take n xs)
first_rows zero xs = refl
first_rows (suc n) [] = refl
first_rows (suc n) (x ∷ xs) = ap (λ (l : List shown.Listed). row_of x.kept ∷ l) (first_rows n xs)

told_rows : (xs : List Listed) → map list_row (rows_of xs) ≡ map (λ x. list_row_of x.kept) xs
told_rows [] = refl
told_rows (x ∷ xs) = ap (λ (l : List ListRow). list_row_of x.kept ∷ l) (told_rows xs)

-- the rows behind a key are LIST's
pub rows_as_list : (after : Option SnapshotKey) (xs : List Listed) → map list_row (rows_behind after (rows_of xs)) ≡ listed_behind after xs
rows_as_list after xs =
    let those : List Listed = filter (λ (x : Listed). is_kept_behind after x.kept) xs in
    ap (λ (l : List shown.Listed). map list_row (take 1024 l)) (behind after xs) ∙ ap (map list_row) (first_rows 1024 those) ∙ told_rows (take 1024 those)

-- ---- what an act leaves

true_false : {P : Type 0} → true ≡ false → P
true_false e = absurd (apart e)
  where
    apart : true ≡ false → ⊥
    apart e = cc

pub done_is : (o : Option Reply) → is_done o ≡ true → o ≡ Some Done
done_is None e = cc
done_is (Some Done) e = refl
done_is (Some r) e = cc

closed_same : (o : Option Reply) (n : ℕ) (session : Session) (xs : List Listed) → is_done o ≡ false → closed_by o n session xs ≡ xs
closed_same None n session xs e = refl
closed_same (Some Done) n session xs e = true_false e
closed_same (Some r) n session xs e = refl

forgotten_same : (snapshot : List ℕ) (o : Option Reply) (xs : List Listed) → is_done o ≡ false → forgotten_by snapshot o xs ≡ xs
forgotten_same snapshot None xs e = refl
forgotten_same snapshot (Some Done) xs e = true_false e
forgotten_same snapshot (Some r) xs e = refl

same_on : (list : OnList) (o : Option Reply) (n : ℕ) (k : KeptAt) → (is_other_list list && is_done o) ≡ false → listed_on list o n k ≡ k.catalogue
same_on same_list o n k e = refl
same_on lists o n k e = closed_same o n k.session k.catalogue e
same_on (takes_out snapshot) o n k e = forgotten_same snapshot o k.catalogue e

pub listed_same : (act : Act) (o : Option Reply) (n : ℕ) (k : KeptAt) → (is_listing act && is_done o) ≡ false → listed_by act o n k ≡ k.catalogue
listed_same act o n k e = same_on (profile act).list o n k e

and_none : (a b : Bool) → b ≡ false → (a && b) ≡ false
and_none true b e = e
and_none false b e = refl

none_and : (a b : Bool) → a ≡ false → (a && b) ≡ false
none_and a b e = ap (λ t. t && b) e

module _ {D E C : Type 0} (old new : Core D E C) (lane : ℕ) (act : Act) (answer : Answer) (changed : Lists old new lane act answer) where
  left : (is_listing act && is_done answer.reply) ≡ false → IsActedOn old new act answer None
  left quiet = (quiet, changed ∙ listed_same act answer.reply answer.place (kept_at old.parts lane) quiet)

  -- it was not done
  pub acted_not : is_done answer.reply ≡ false → IsActedOn old new act answer None
  acted_not undone = left (and_none (is_listing act) (is_done answer.reply) undone)

  -- it was done
  pub acted_done : (next : Option (Arc (Vec (Arc Chunk Global) Global) Global)) → IsNextAfter old lane act next → is_done answer.reply ≡ true → IsActedOn old new act answer next
  acted_done None none finished = left (none_and (is_listing act) (is_done answer.reply) none)
  acted_done (Some next) some finished =
      some answer.place
      ∙ ap rows_of (ap (λ o. listed_by act o answer.place (kept_at old.parts lane)) (sym (done_is answer.reply finished)) ∙ sym changed)

-- ---- of what a call gives

pub ok_map : {A E : Type 0} {P Q : A → Type 0} (r : Result A E) → ((x : A) → P x → Q x) → IfOk r P → IfOk r Q
ok_map (Ok x) f p = f x p
ok_map (Err e) f p = tt
