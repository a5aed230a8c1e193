-- BLOB is refused, and done, as the store does it.
use Rattle.std.proofs.Common.{◌≡◌, ℕ, ◌+◌, ◌<◌, Bool, true, false, not, ◌||◌, length, List, Result, Ok, Err, refl, sym, ap, ◌∙◌}
use Rattle.std.proofs.lemmas.Bool.{ltb-true, or_parts}
use Rattle.std.specs.List.{list_any}
use Rattle.std.specs.Prelude.{nat_lt}
use Rattle.std.specs.Str.{bytes_eq}
use Rattle.store_types.specs.declared.refusal.Refusal.{Refusal}
use Rattle.store_types.specs.declared.refusal.Refusal.TheVariants.{BadName, Exists, TooMany}
use Rattle.store_types.specs.Chain.Refusing.{◌>>=◌, unless}
use Rattle.store_types.specs.FileNames.{is_file_name, is_index_name, is_blob_name}
use Rattle.store_files.specs.Archive.{blob}
use Rattle.wire_commands.specs.declared.reply.Reply.TheVariants.{Done}
use Rattle.store_model.specs.Store as model
use Rattle.store_model.specs.Store.{Store, Writer, Outcome, writer, session, with_session}
use Rattle.store_model.specs.Uploads.{want_room}
use Rattle.store_model.specs.WriterSteps.{checked_blob, with_file, goes_on}
use Rattle.store_model.specs.WriterCalls as calls
use Rattle.backup_session.specs.Answers.{takes_blob}

-- ---- what the tests gave

-- a name is free beside a writer's files and open archives, and there is room for one more
pub record HasRoom (name : List ℕ) (w : Writer) : Type 0 where
  pub free : list_any (λ f. bytes_eq f.name name) w.files ≡ false
  pub free_open : list_any (λ b. bytes_eq b.name name) w.begun ≡ false
  pub room : length w.files + length w.begun < 64

room_by : (name : List ℕ) (w : Writer) (a b c : Bool) → list_any (λ f. bytes_eq f.name name) w.files ≡ a → list_any (λ x. bytes_eq x.name name) w.begun ≡ b
    → nat_lt (length w.files + length w.begun) 64 ≡ c → (unless Exists (not (a || b)) >>= λ _. unless (TooMany 64) c) ≡ Ok tt → HasRoom name w
room_by name w true b c e f g is = cc
room_by name w false true c e f g is = cc
room_by name w false false false e f g is = cc
room_by name w false false true e f g is = record { free = e; free_open = f; room = ltb-true (length w.files + length w.begun) 64 g }

pub has_room : (name : List ℕ) (w : Writer) → want_room name w ≡ Ok tt → HasRoom name w
has_room name w is = room_by name w _ _ _ refl refl refl is

-- the call that takes a blob
pub record IsTaken (name contents : List ℕ) (w after : Writer) : Type 0 where
  pub named : is_blob_name name ≡ true
  pub room : want_room name w ≡ Ok tt
  pub same : after ≡ with_file name (blob contents) w

writer_of : Writer → Result (Writer × Unit {0}) Refusal → Writer
writer_of w (Ok taken) = taken.0
writer_of w (Err r) = w

taken_by : (name contents : List ℕ) (w after : Writer) (a : Bool) (r : Result (Unit {0}) Refusal) → is_blob_name name ≡ a → want_room name w ≡ r
    → (let taken : Result (Writer × Unit {0}) Refusal = Ok (with_file name (blob contents) w, tt) in unless BadName a >>= λ _. r >>= λ _. taken) ≡ Ok (after, tt) → IsTaken name contents w after
unfolding writer_of
taken_by name contents w after false r e f is = cc
taken_by name contents w after true (Err q) e f is = cc
taken_by name contents w after true (Ok u) e f is = record { named = e; room = f; same = sym (ap (writer_of w) is) }

pub taken : (name contents : List ℕ) (w after : Writer) → calls.put_data w name contents ≡ Ok (after, tt) → IsTaken name contents w after
unfolding calls.put_data
taken name contents w after is = taken_by name contents w after _ _ refl refl is

-- ---- the step

module _ (s : Store) (lane : ℕ) (name : List ℕ) (checked : Result (List ℕ) Refusal) where
  pub not_writing : (r : Refusal) → model.want_writer (session s lane) ≡ Err r → checked_blob s lane name checked ≡ Err r
  unfolding checked_blob
  not_writing r none = rw none refl

  pub bad_name : (w : Writer) → session s lane ≡ writer w → is_file_name name ≡ false → checked_blob s lane name checked ≡ Err BadName
  unfolding checked_blob
  bad_name w at bad = let no_blob = (or_parts (is_index_name name) (is_blob_name name) bad).1 in rw (at, no_blob) refl

  pub tests : Result (Unit {0}) Refusal → Writer → Outcome
  tests t w = t >>= λ _. checked >>= λ contents. goes_on s lane (with_file name (blob contents) w) Done

  in_turn : (w : Writer) (a : Bool) (r : Result (Unit {0}) Refusal) → session s lane ≡ writer w → is_blob_name name ≡ a → want_room name w ≡ r
      → checked_blob s lane name checked ≡ tests (unless BadName a >>= λ _. r) w
  unfolding checked_blob tests
  in_turn w false r at named room = rw (at, named) refl
  in_turn w true (Err q) at named room = rw (at, named, room) refl
  in_turn w true (Ok u) at named room = rw (at, named, room) refl

  pub by_tests : (w : Writer) (t : Result (Unit {0}) Refusal) → session s lane ≡ writer w → takes_blob name w ≡ t → checked_blob s lane name checked ≡ tests t w
  unfolding takes_blob
  by_tests w t at is = in_turn w (is_blob_name name) (want_room name w) at refl refl ∙ ap (λ x. tests x w) is

  pub refused : (w : Writer) (r : Refusal) → session s lane ≡ writer w → takes_blob name w ≡ Err r → checked_blob s lane name checked ≡ Err r
  unfolding tests
  refused w r at is = by_tests w (Err r) at is

  -- the check's refusal comes last
  pub unchecked : (w : Writer) (r : Refusal) → session s lane ≡ writer w → takes_blob name w ≡ Ok tt → checked ≡ Err r → checked_blob s lane name checked ≡ Err r
  unfolding tests
  unchecked w r at is bad = by_tests w (Ok tt) at is ∙ ap (λ c. c >>= λ contents. goes_on s lane (with_file name (blob contents) w) Done) bad

  pub done : (w : Writer) (contents : List ℕ) → session s lane ≡ writer w → takes_blob name w ≡ Ok tt → checked ≡ Ok contents
      → checked_blob s lane name checked ≡ Ok (with_session s lane (writer (with_file name (blob contents) w)), Done)
  unfolding tests goes_on
  done w contents at is good = by_tests w (Ok tt) at is ∙ ap (λ c. c >>= λ p. goes_on s lane (with_file name (blob p) w) Done) good
