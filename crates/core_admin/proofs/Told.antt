-- What LIST, GROUP and the first step of a PRUNE tell by what they find is what the plain store tells.
use Rattle.std.proofs.Common.{◌≡◌, ◌<◌, ◌≤◌, ℕ, Bool, false, min, length, get_or, map, take, List, Option, Some, None, Result, Ok, Err, IsTrue, refl, sym, ap, ◌∙◌, arith}
use Rattle.std.proofs.lemmas.List.{length-map, take-map}
use Rattle.std.proofs.lemmas.List.Elements.{All-take, All-filter, All-weaker, filter_agree}
use Rattle.std.specs.List.{All, filter}
use Rattle.store_types.specs.declared.names.Keep.{Keep}
use Rattle.store_types.specs.declared.names.GroupKey.{GroupKey}
use Rattle.store_types.specs.declared.names.SnapshotKey.{SnapshotKey}
use Rattle.store_types.specs.declared.refusal.Refusal.{Refusal}
use Rattle.store_types.specs.declared.refusal.Refusal.TheVariants.{TooMany}
use Rattle.store_types.specs.Chain.Refusing.{◌>>=◌, unless}
use Rattle.store_types.specs.Names.{key_text}
use Rattle.store_files.specs.Archive.{Snapshot}
use Rattle.wire_commands.specs.declared.command.Command.TheVariants.{List as ListAll, Prune, Group}
use Rattle.wire_commands.specs.declared.reply.Reply.{Reply}
use Rattle.wire_commands.specs.declared.reply.Reply.TheVariants.{Listing, Keys, Refused}
use Rattle.store_model.specs.AdminSteps.{list_limit, is_after, list_row, listed, list, group_texts, group, counts_fit, prune_group}
use Rattle.store_model.specs.Store.{Store, Outcome, in_group}
use Rattle.store_model.specs.Steps.{outcome}
use Rattle.store_model.specs.Stands.{IsSnapshot, group_limit}
use Rattle.core_state.specs.declared.kept.Kept.{Kept}
use Rattle.core_state.specs.declared.kept.Listed.{Listed}
use Rattle.core_state.specs.declared.parts.Parts.{Parts}
use Rattle.core_state.specs.Found.{is_behind, is_in}
use Rattle.core_state.specs.Heads.{after_in, group_in, idle_group}
use Rattle.core_state.specs.Holds.{Shows}
use Rattle.core_state.specs.Kept.{KeptAt, kept_at}
use Rattle.store_history.specs.Replies.{answers_prune, reply_told}
use Rattle.core_state.specs.Shown.{shown_file, shown_snapshot}
use Rattle.core_state.proofs.HeadLemmas.{after_in_is, group_in_is, idle_group_is, idle_group_refuses, refuses_none, refuses_then, refuses_unless}
use Rattle.core_admin.specs.Listings.{row_of, rows_behind, list_told, texts_in, group_told, prune_told, to_prune}
use Rattle.core_admin.proofs.Filtering.{found_map, map_agree, map_twice}

-- an outcome that leaves the store as it is
abbrev pub tells : Store → Reply → Outcome
tells s reply = Ok (s, reply)

abbrev gives : Reply → Result Reply Refusal
gives reply = Ok reply

-- ---- rows of LIST

same_after : (after : Option SnapshotKey) (x : Snapshot) → is_behind after (shown_snapshot x) ≡ is_after after x
same_after None x = refl
same_after (Some key) x = refl

abbrev HasFew : Snapshot → Type 0
HasFew x = length x.files ≤ 64

same_row : (x : Snapshot) → HasFew x → row_of (shown_snapshot x) ≡ list_row x
same_row x few =
    let count : min (length (map (shown_file x.key) x.files)) 255 ≡ length x.files = omega (arith, length-map x.files (shown_file x.key), few) in
    ap (λ n. record { snapshot = key_text x.key; damaged = false; files = n }) count

module _ (catalogue : List Listed) (s : Store) (shown : map (λ x. x.kept) catalogue ≡ map shown_snapshot s.snapshots) where
  pub rows_are : (after : Option SnapshotKey) → All HasFew s.snapshots → rows_behind after catalogue ≡ listed s.snapshots after
  rows_are after few =
      sym (found_map (λ (x : Listed). x.kept) row_of (is_behind after) list_limit catalogue)
      ∙ ap (λ ks. map row_of (take list_limit (filter (is_behind after) ks))) shown
      ∙ found_map shown_snapshot row_of (is_behind after) list_limit s.snapshots
      ∙ ap (λ xs. map (λ x. row_of (shown_snapshot x)) (take list_limit xs)) (filter_agree (λ x. is_behind after (shown_snapshot x)) (is_after after) (same_after after) s.snapshots)
      ∙ map_agree (λ x. row_of (shown_snapshot x)) list_row (take list_limit (filter (is_after after) s.snapshots))
      (λ i d lt. same_row (get_or (take list_limit (filter (is_after after) s.snapshots)) i d) (All-take HasFew list_limit (filter (is_after after) s.snapshots) (All-filter (is_after after) HasFew s.snapshots few) i d lt))

  pub texts_are : (group : GroupKey) → texts_in group catalogue ≡ group_texts group s.snapshots
  texts_are group =
      sym (found_map (λ (x : Listed). x.kept) (λ (k : Kept). key_text k.key) (is_in group) group_limit catalogue)
      ∙ ap (λ (ks : List Kept). map (λ (k : Kept). key_text k.key) (take group_limit (filter (is_in group) ks))) shown
      ∙ found_map shown_snapshot (λ (k : Kept). key_text k.key) (is_in group) group_limit s.snapshots
      ∙ sym (map_twice (λ (x : Snapshot). x.key) key_text (take group_limit (in_group group s.snapshots)))
      ∙ ap (map key_text) (sym (take-map (λ (x : Snapshot). x.key) group_limit (in_group group s.snapshots)))

pub has_few : (s : Store) → All IsSnapshot s.snapshots → All HasFew s.snapshots
has_few s each = All-weaker IsSnapshot HasFew (λ x is. is.count) s.snapshots each

-- ---- the steps

module _ {D : Type 0} (parts : Parts D) (s : Store) (shows : Shows parts s) (lane moment : ℕ) (text : List ℕ) where
  abbrev k : KeptAt
  k = kept_at parts lane

  pub list_is : outcome s lane moment (ListAll text) ≡ (list_told text k >>= tells s)
  unfolding outcome list
  list_is =
      ap (λ r. r >>= λ after. tells s (Listing (listed s.snapshots after))) (sym (after_in_is parts s lane text)) ∙ by_after (after_in text k)
    where
      by_after : (r : Result (Option SnapshotKey) Refusal) → (r >>= λ after. tells s (Listing (listed s.snapshots after))) ≡ ((r >>= λ after. gives (Listing (rows_behind after k.catalogue))) >>= tells s)
      by_after (Ok after) = ap (λ rows. tells s (Listing rows)) (sym (rows_are k.catalogue s shows.catalogue after (has_few s (shows.sound).each)))
      by_after (Err refusal) = refl

  by_group : (r : Result GroupKey Refusal) → (r >>= λ g. tells s (Keys (group_texts g s.snapshots))) ≡ ((r >>= λ g. gives (Keys (texts_in g k.catalogue))) >>= tells s)
  by_group (Ok g) = ap (λ texts. tells s (Keys texts)) (sym (texts_are k.catalogue s shows.catalogue g))
  by_group (Err refusal) = refl

  pub group_is : outcome s lane moment (Group text) ≡ (group_told text k >>= tells s)
  unfolding outcome group
  group_is = ap (λ r. r >>= λ g. tells s (Keys (group_texts g s.snapshots))) (sym (group_in_is parts s lane text)) ∙ by_group (group_in text k)

  pub prune_is : (keep : Keep) (dry : Bool) → lane < 64 → outcome s lane moment (Prune text keep dry) ≡ (prune_told text keep k >>= tells s)
  unfolding outcome prune_group to_prune
  prune_is keep dry lt =
      ap (λ r. r >>= λ g. unless (TooMany 1000) (counts_fit keep) >>= λ _. tells s (Keys (group_texts g s.snapshots))) (sym (idle_group_is parts s lane shows lt text))
      ∙ by_name (idle_group text k) (unless (TooMany 1000) (counts_fit keep))
    where
      by_name : (r : Result GroupKey Refusal) (t : Result (Unit {0}) Refusal)
          → (r >>= λ g. t >>= λ _. tells s (Keys (group_texts g s.snapshots))) ≡ (((r >>= λ g. t >>= λ _. Ok g) >>= λ g. gives (Keys (texts_in g k.catalogue))) >>= tells s)
      by_name (Ok g) (Ok u) = ap (λ texts. tells s (Keys texts)) (sym (texts_are k.catalogue s shows.catalogue g))
      by_name (Ok g) (Err refusal) = refl
      by_name (Err refusal) t = refl

-- ---- what is told, by what its tests decide

module _ {A : Type 0} (s : Store) (step : Outcome) (wanted : Result A Refusal) (reply : A → Reply) (is : step ≡ ((wanted >>= λ x. gives (reply x)) >>= tells s)) where
  pub step_refuses : (r : Refusal) → wanted ≡ Err r → step ≡ Err r
  step_refuses r e = is ∙ ap (λ w. (w >>= λ x. gives (reply x)) >>= tells s) e

  pub step_tells : (x : A) (said : Reply) → wanted ≡ Ok x → said ≡ reply x → step ≡ Ok (s, said)
  step_tells x said e same = is ∙ ap (λ w. (w >>= λ x. gives (reply x)) >>= tells s) e ∙ ap (λ q. Ok (s, q)) (sym same)

pub told_as : {A : Type 0} (wanted : Result A Refusal) (reply : A → Reply) (x : A) (said : Reply) → wanted ≡ Ok x → said ≡ reply x → said ≡ reply_told (wanted >>= λ x. gives (reply x))
told_as wanted reply x said e same = same ∙ sym (ap (λ w. reply_told (w >>= λ x. gives (reply x))) e)

-- each refusal of a PRUNE's tests is one of its own
pub prune_answers : (text : List ℕ) (keep : Keep) (k : KeptAt) (r : Refusal) → to_prune text keep k ≡ Err r → IsTrue (answers_prune (Refused r))
unfolding to_prune
prune_answers text keep k r e =
    refuses_then (λ r. IsTrue (answers_prune (Refused r))) (idle_group text k) _ (idle_group_refuses (λ r. IsTrue (answers_prune (Refused r))) k text (λ state. refl) refl)
    (λ group. refuses_then (λ r. IsTrue (answers_prune (Refused r))) (unless (TooMany 1000) (counts_fit keep)) _
    (refuses_unless (λ r. IsTrue (answers_prune (Refused r))) (TooMany 1000) (counts_fit keep) refl) (λ u. refuses_none (λ r. IsTrue (answers_prune (Refused r))) group)) r e
