-- FORGET is the store's.
use Rattle.disk_trait.specs.declared.disk.Disk.{Ghosts}
use Rattle.std.proofs.Common.{◌≡◌, ◌<◌, ⊎_elim, ℕ, true, not, map, List, [], ◌∷◌, Option, Some, None, Result, Ok, Err, IsOk, refl, sym, ap, subst, ◌∙◌, arith}
use Rattle.std.proofs.lemmas.List.Elements.{All-cons, All-map, All-filter}
use Rattle.std.specs.FinMap.{get}
use Rattle.std.specs.List.{Contains, filter}
use Rattle.std.specs.Option.{option_map}
use Rattle.std.specs.Str.{bytes_eq}
use Rattle.disk_trait.specs.Files.{Files}
use Rattle.store_types.specs.declared.names.SnapshotKey.{SnapshotKey}
use Rattle.store_types.specs.declared.refusal.Refusal.{Refusal}
use Rattle.store_types.specs.declared.refusal.Refusal.TheVariants.{BadName, NoSnapshot, SnapshotBusy, WrongState}
use Rattle.store_types.specs.declared.refusal.SessionState.{SessionState}
use Rattle.store_types.specs.Chain.Refusing.{◌>>=◌, or_else, if_none}
use Rattle.store_types.specs.FileNames.{manifest_name}
use Rattle.store_types.specs.Names.{IsKey, key_of}
use Rattle.store_types.proofs.KeyTexts.{no_slash}
use Rattle.lock_book.specs.Locks.{least_sharer}
use Rattle.store_files.specs.Archive.{Snapshot}
use Rattle.wire_commands.specs.declared.command.Command.TheVariants.{Forget}
use Rattle.wire_commands.specs.declared.reply.Reply.TheVariants.{Done}
use Rattle.store_model.specs.AdminSteps.{forget, want_free}
use Rattle.store_model.specs.Heads as model
use Rattle.store_model.specs.Store.{Store, Outcome, snapshot_named, snapshot_holder}
use Rattle.store_model.proofs.Done.{ok_same, passed}
use Rattle.store_model.specs.Steps.{outcome}
use Rattle.store_model.specs.Stands.{IsSnapshot}
use Rattle.store_files.specs.Folder.{manifest_path}
use Rattle.store_files.specs.Folder.{file_path}
use Rattle.store_model.proofs.Insertions.{Contains-here, Contains-later, Contains-cases}
use Rattle.store_model.proofs.Paths.{manifest_plain}
use Rattle.store_model.proofs.StandsLemmas.{file_plain}
use Rattle.snapshot_files.specs.Forgotten.{without}
use Rattle.snapshot_files.proofs.Losing.{without_these, without_others}
use Rattle.core_state.specs.declared.kept.Kept.{Kept}
use Rattle.core_state.specs.declared.kept.StoredFile.{StoredFile}
use Rattle.core_state.specs.declared.parts.Parts.{Parts}
use Rattle.core_state.specs.Found.{kept_named}
use Rattle.core_state.specs.Holds.{Holds, IsOnDisk, Shows}
use Rattle.core_state.specs.Locked.{Locked}
use Rattle.core_state.specs.Shown.{shown_file, shown_files, shown_snapshot}
use Rattle.core_state.proofs.Finding.{mapped}
use Rattle.core_state.proofs.Found.{kept_is}
use Rattle.core_state.proofs.Removing.{forgot, found_whole}
use Rattle.core_state.specs.Catalogue.{without_listed}
use Rattle.core_state.specs.Heads.{idle_key}
use Rattle.core_state.specs.Kept.{KeptAt, kept_at}
use Rattle.core_state.proofs.HeadLemmas.{idle_key_is, idle_key_named, idle_key_refuses, refuses_none, refuses_or, refuses_some, refuses_then}
use Rattle.core_admin.specs.Forgotten.{to_forget}
use Rattle.core_state.specs.Changes.{names_beside}
use Rattle.core_admin.proofs.Freeing.{holder_is}
use Rattle.snapshot_files.proofs.Leaving.{Takes, ArePlain}
use Rattle.core_admin.proofs.Remaining.{shows_without, disk_without}

-- ---- what is tested

-- the refusal is one of these
pub forget_refusals : (P : Refusal → Type 0) (text : List ℕ) (k : KeptAt) → ((state : SessionState) → P (WrongState state)) → P BadName → P NoSnapshot → ((lane : ℕ) → P (SnapshotBusy lane))
    → (r : Refusal) → to_forget text k ≡ Err r → P r
unfolding to_forget
forget_refusals P text k busy bad missing held r e =
    refuses_then P (idle_key text k) _ (idle_key_refuses P k text busy bad)
    (λ key. refuses_then P (or_else NoSnapshot (kept_named key k.catalogue)) _ (refuses_or P NoSnapshot (kept_named key k.catalogue) missing)
    (λ x. refuses_then P (if_none SnapshotBusy (least_sharer k.locks key)) _ (refuses_some P SnapshotBusy (least_sharer k.locks key) held) (λ u. refuses_none P key))) r e

-- what is found where none comes
pub forget_found : (text : List ℕ) (k : KeptAt) (key : SnapshotKey) → to_forget text k ≡ Ok key → (key_of text ≡ Some key) × (least_sharer k.locks key ≡ None)
unfolding to_forget
forget_found text k key e =
    let (named, head, e1) = passed (idle_key text k) _ key e in
    let (kept, there, e2) = passed (or_else NoSnapshot (kept_named named k.catalogue)) _ key e1 in
    let (u, free, e3) = passed (if_none SnapshotBusy (least_sharer k.locks named)) _ key e2 in
    let same : named ≡ key = ok_same named key e3 in
    (idle_key_named k text named head ∙ ap (λ x. Some x) same, sym (ap (least_sharer k.locks) same) ∙ none_held (least_sharer k.locks named) free)
  where
    none_held : (o : Option ℕ) → if_none SnapshotBusy o ≡ Ok tt → o ≡ None
    none_held None e = refl
    none_held (Some lane) e = cc

-- ---- the plain store's step

abbrev takes_out : Store → SnapshotKey → Outcome
takes_out s key = Ok (forgot s key, Done)

module _ (s : Store) (lane moment : ℕ) (text : List ℕ) (k : KeptAt) (head : idle_key text k ≡ model.idle_key s lane text) (shown : map (λ x. x.kept) k.catalogue ≡ map shown_snapshot s.snapshots)
    (locked : Locked k.locks s) where
  abbrev freed : SnapshotKey → Option ℕ → Result SnapshotKey Refusal
  freed key holder = if_none SnapshotBusy holder >>= λ _. Ok key

  abbrev found : SnapshotKey → Option Kept → Result SnapshotKey Refusal
  found key o = or_else NoSnapshot o >>= λ _. freed key (least_sharer k.locks key)

  abbrev named : Result SnapshotKey Refusal → Result SnapshotKey Refusal
  named r = r >>= λ key. found key (kept_named key k.catalogue)

  forget_asks : to_forget text k ≡ named (idle_key text k)
  unfolding to_forget
  forget_asks = refl

  from_state : (key : SnapshotKey) (o : Option Snapshot) → kept_named key k.catalogue ≡ option_map shown_snapshot o
      → ((or_else NoSnapshot o >>= λ _. if_none SnapshotBusy (snapshot_holder s key)) >>= λ _. takes_out s key) ≡ (found key (kept_named key k.catalogue) >>= takes_out s)
  from_state key None is = sym (ap (λ o. found key o >>= takes_out s) is)
  from_state key (Some x) is =
      by_holder (snapshot_holder s key)
      ∙ sym (ap (λ o. found key o >>= takes_out s) is ∙ ap (λ h. freed key h >>= takes_out s) (holder_is k.locks s key locked))
    where
      by_holder : (h : Option ℕ) → (if_none SnapshotBusy h >>= λ _. takes_out s key) ≡ (freed key h >>= takes_out s)
      by_holder None = refl
      by_holder (Some lane) = refl

  by_name : (r : Result SnapshotKey Refusal) → (r >>= λ key. want_free s key >>= λ _. takes_out s key) ≡ (named r >>= takes_out s)
  unfolding want_free
  by_name (Ok key) = from_state key (snapshot_named key s.snapshots) (kept_is k.catalogue s.snapshots key shown)
  by_name (Err refusal) = refl

  pub forget_is : outcome s lane moment (Forget text) ≡ (to_forget text k >>= takes_out s)
  unfolding outcome forget
  forget_is = by_name (model.idle_key s lane text) ∙ ap (λ r. named r >>= takes_out s) (sym head) ∙ ap (λ r. r >>= takes_out s) (sym forget_asks)

  pub refused : (r : Refusal) → to_forget text k ≡ Err r → outcome s lane moment (Forget text) ≡ Err r
  refused r told = forget_is ∙ ap (λ t. t >>= takes_out s) told

  pub done : (key : SnapshotKey) → to_forget text k ≡ Ok key → outcome s lane moment (Forget text) ≡ takes_out s key
  done key told = forget_is ∙ ap (λ t. t >>= takes_out s) told

  pub no_holder : (key : SnapshotKey) → least_sharer k.locks key ≡ None → snapshot_holder s key ≡ None
  no_holder key none = sym (holder_is k.locks s key locked) ∙ none

-- ---- its files

from_map : {A B : Type 0} (f : A → B) (xs : List A) (y : B) → Contains (map f xs) y → (x : A) × Contains xs x × (f x ≡ y)
from_map f [] y c = let lt = c.1 in absurd (omega (arith, lt))
from_map {A} f (x ∷ xs) y c =
    ⊎_elim
    (λ (e : f x ≡ y). (x, Contains-here x xs, e))
    (λ (later : Contains (map f xs) y). let r : (z : A) × Contains xs z × (f z ≡ y) = from_map f xs y later in (r.0, Contains-later x xs r.0 r.1, r.2))
    (Contains-cases (f x) (map f xs) y c)

module _ (m n : Files) (key : SnapshotKey) (x : Snapshot) (is : IsSnapshot x) (gone : n ≡ without (manifest_path key ∷ map (file_path key) (names_beside (shown_files x.key x.files))) m) where
  abbrev pub names_of : List (List ℕ)
  names_of = manifest_name ∷ names_beside (shown_files x.key x.files)

  pub are_plain : ArePlain names_of
  are_plain =
      All-cons (λ name. no_slash name ≡ true) manifest_name (names_beside (shown_files x.key x.files)) manifest_plain
      (All-map (λ name. no_slash name ≡ true) (λ (f : StoredFile). f.name) (filter (λ f. not (bytes_eq f.name manifest_name)) (shown_files x.key x.files))
      (All-filter (λ f. not (bytes_eq f.name manifest_name)) (λ (f : StoredFile). no_slash f.name ≡ true) (shown_files x.key x.files)
      (All-map (λ (f : StoredFile). no_slash f.name ≡ true) (shown_file x.key) x.files (file_plain x is))))

  pub takes : Takes m n key names_of
  takes = record {
    manifest = ap (λ m. get m (manifest_path key)) gone ∙ without_these (map (file_path key) names_of) m (manifest_path key) (0, omega arith, refl);
    others = λ q other. ap (λ m. get m q) gone ∙ without_others (map (file_path key) names_of) m q (λ has. let name = from_map (file_path key) names_of q has in other name.0 name.1 name.2);
  }

-- ---- the act

module _ {D : Type 0} (old : Parts D) (s : Store) (lane moment : ℕ) (text : List ℕ) where
  abbrev k : KeptAt
  k = kept_at old lane

  pub forget_refuses : Shows old s → lane < 64 → (r : Refusal) → to_forget text k ≡ Err r → outcome s lane moment (Forget text) ≡ Err r
  forget_refuses shows lt r told = refused s lane moment text k (idle_key_is old s lane shows lt text) shows.catalogue shows.locks r told

  -- the store takes it out, whatever becomes of its files
  pub forget_passes : (key : SnapshotKey) → Shows old s → lane < 64 → to_forget text k ≡ Ok key → IsOk (forget s lane text)
  unfolding outcome
  forget_passes key shows lt told = subst IsOk (sym (done s lane moment text k (idle_key_is old s lane shows lt text) shows.catalogue shows.locks key told)) refl

module _ {D : Type 0} (d : Ghosts D) (old new : Parts D) (s : Store) (lane moment : ℕ) (text : List ℕ) where
  pub forget_step : (key : SnapshotKey) (k : Kept) → Holds d old s → lane < 64 → to_forget text (kept_at old lane) ≡ Ok key → kept_named key old.catalogue.listed ≡ Some k → IsKey key
      → (d.honest old.disk → d.content new.disk ≡ without (manifest_path key ∷ map (file_path key) (names_beside k.files)) (d.content old.disk))
      → new.catalogue.listed ≡ without_listed key old.catalogue.listed → new.sessions.items ≡ old.sessions.items → new.locks ≡ old.locks → new.indexes.items ≡ old.indexes.items
      → (after : Store) × (outcome s lane moment (Forget text) ≡ Ok (after, Done)) × Shows new after × IsOnDisk (d.content new.disk) after
  forget_step key k h lt told there named gone c l locks rows =
      let at = kept_at old lane in
      let shown = (h.shows).catalogue in
      let sound = (h.shows).sound in
      let head = idle_key_is old s lane h.shows lt text in
      let none : least_sharer old.locks key ≡ None = (forget_found text at key told).1 in
      let is_none = no_holder s lane moment text at head shown (h.shows).locks key none in
      let y = mapped shown_snapshot (snapshot_named key s.snapshots) k (sym (kept_is old.catalogue.listed s.snapshots key shown) ∙ there) in
      let whole : IsSnapshot y.0 = found_whole s.snapshots key y.0 sound.each y.1 in
      let files : d.content new.disk ≡ without (manifest_path key ∷ map (file_path key) (names_beside (shown_files (y.0).key (y.0).files))) (d.content old.disk)
      = gone h.honest ∙ ap (λ (k : Kept). without (manifest_path key ∷ map (file_path key) (names_beside k.files)) (d.content old.disk)) y.2 in (
        forgot s key,
        done s lane moment text at head shown (h.shows).locks key told,
        shows_without old new s key is_none c l locks rows h.shows,
        disk_without (d.content old.disk) (d.content new.disk) s key y.0 (names_of (d.content old.disk) (d.content new.disk) key y.0 whole files) y.1 named
            (are_plain (d.content old.disk) (d.content new.disk) key y.0 whole files) (takes (d.content old.disk) (d.content new.disk) key y.0 whole files) sound h.files,
      )
