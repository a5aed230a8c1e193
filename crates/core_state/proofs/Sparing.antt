-- Acts that move no manifest and put no chunk leave what the disk stands for, refused or not.
use Rattle.std.proofs.Common.{◌≡◌, ◌≢◌, ℕ, Bool, true, false, if◌then◌else◌, List, [], ◌∷◌, Option, Some, None, Result, Ok, Err, refl, sym, subst, ◌∙◌}
use Rattle.std.proofs.lemmas.List.Elements.{All-cons, All-nil}
use Rattle.std.proofs.lemmas.Slice.Eq.{bytes_eq-Decides}
use Rattle.std.specs.List.{All, cons_option}
use Rattle.std.specs.Str.{bytes_eq}
use Rattle.disk_trait.specs.Files.{Files}
use Rattle.file_install.specs.Install.{temporary}
use Rattle.store_types.specs.FileNames.{manifest_name}
use Rattle.store_types.specs.declared.refusal.Refusal.{Refusal}
use Rattle.store_types.specs.declared.refusal.Refusal.TheVariants as refusals
use Rattle.store_files.specs.Archive.{File, Snapshot}
use Rattle.store_files.specs.Folder.{file_path}
use Rattle.wire_commands.specs.declared.reply.Reply.{Reply}
use Rattle.wire_commands.specs.declared.reply.Reply.TheVariants as replies
use Rattle.store_model.specs.Stands.{StandsFor, IsSnapshot}
use Rattle.store_model.specs.Store as model
use Rattle.store_model.specs.Store.{Store, Writer, session}
use Rattle.store_model.proofs.StandsLemmas.{Apart}
use Rattle.store_history.specs.declared.act.Act.{Act}
use Rattle.store_history.specs.Profile.{new_file, new_chunk, new_index, new_manifest, no_files, no_snapshot, swept, OnDisk, no_call, only_reads, disk_change, profile}
use Rattle.backup_session.specs.Indexes.{text_of}
use Rattle.backup_session.specs.Session.{Open}
use Rattle.backup_session.specs.Shown.{shown}
use Rattle.backup_session.specs.Steps.{begun_at}
use Rattle.core_state.specs.declared.kept.Writing.{Writing}
use Rattle.core_state.specs.Changes.{Change, MayLeave, blob_put, by_reply, by_writer, change_of, change_on, drops, file_put, finishes, forgets, index_put, installs, put_paths, stays, stores, undone}
use Rattle.core_state.specs.Holds.{IsSound, IsWriter}
use Rattle.core_state.specs.Kept.{KeptAt}
use Rattle.core_state.specs.Shown.{shown_files, shown_session, shown_writer}
use Rattle.core_state.proofs.AnyPaths.{apart_any, apart_staged, stands_installs, stands_loses}
use Rattle.core_state.proofs.OnDisk.{fresh}

-- ---- changes at names that don't matter

abbrev pub Spares : List Snapshot → Change → Type 0
Spares snapshots stays = Unit {0}
Spares snapshots undone = Unit {0}
Spares snapshots (installs path bytes) = Apart snapshots path × Apart snapshots (temporary path)
Spares snapshots (stores name bytes) = ⊥
Spares snapshots (drops paths) = All (Apart snapshots) paths
Spares snapshots (finishes path bytes) = ⊥
Spares snapshots (forgets manifest paths) = ⊥

pub stands_spared : (snapshots : List Snapshot) (change : Change) (read b c : Files) → Spares snapshots change → MayLeave change read b c → StandsFor b snapshots → StandsFor c snapshots
stands_spared snapshots stays read b c spares same s = subst (λ (m : Files). StandsFor m snapshots) (sym same) s
stands_spared snapshots undone read b c spares same s = subst (λ (m : Files). StandsFor m snapshots) (sym same) s
stands_spared snapshots (installs path bytes) read b c spares put s = stands_installs snapshots path bytes read b c spares.0 spares.1 put s
stands_spared snapshots (stores name bytes) read b c spares put s = absurd spares
stands_spared snapshots (drops paths) read b c spares lose s = stands_loses snapshots paths b c spares lose s
stands_spared snapshots (finishes path bytes) read b c spares put s = absurd spares
stands_spared snapshots (forgets manifest paths) read b c spares gone s = absurd spares

pub spares_reply : (snapshots : List Snapshot) (change : Change) (reply : Option Reply) → Spares snapshots change → Spares snapshots (by_reply change reply)
spares_reply snapshots change None spares = spares
spares_reply snapshots change (Some (replies.Refused refusal)) spares = refused refusal
  where
    refused : (refusal : Refusal) → Spares snapshots (by_reply change (Some (replies.Refused refusal)))
    refused refusals.DiskFault = spares
    refused r = tt
spares_reply snapshots change (Some reply) spares = spares

-- ---- a writer's files

other_name : (name : List ℕ) → bytes_eq name manifest_name ≡ false → name ≢ manifest_name
other_name name is e = clash (sym ((bytes_eq-Decides name manifest_name).1 e) ∙ is)
  where
    clash : true ≡ false → ⊥
    clash e = cc

module _ (snapshots : List Snapshot) (w : Writer) (each : All IsSnapshot snapshots) (h : IsWriter snapshots w) where
  its_file : (name : List ℕ) → name ≢ manifest_name → Apart snapshots (file_path w.key name)
  its_file name other = apart_any snapshots w.key each h.key (fresh snapshots w h) name other

  spares_put : (b : Bool) (name bytes : List ℕ) → bytes_eq name manifest_name ≡ b → Spares snapshots (if b then stays else installs (file_path w.key name) bytes)
  spares_put true name bytes is = tt
  spares_put false name bytes is = (its_file name (other_name name is), apart_staged snapshots w.key each h.key (fresh snapshots w h) name)

  spares_file : (name bytes : List ℕ) → Spares snapshots (file_put name bytes (shown_writer w))
  unfolding shown
  spares_file name bytes = spares_put (bytes_eq name manifest_name) name bytes refl

  pub spares_blob : (name : List ℕ) (checked : Result (List ℕ) Refusal) → Spares snapshots (blob_put name checked (shown_writer w))
  spares_blob name (Ok bytes) = spares_file name bytes
  spares_blob name (Err refusal) = tt

  pub spares_index : (b : Option Open) → Spares snapshots (index_put b (shown_writer w))
  spares_index (Some b) = spares_file b.name (text_of b.index)
  spares_index None = tt

  spares_more : (b : Bool) (f : File) (rest : List (List ℕ)) → bytes_eq f.name manifest_name ≡ b → All (Apart snapshots) rest → All (Apart snapshots) (cons_option (if b then None else Some (file_path w.key f.name)) rest)
  spares_more true f rest is all = all
  spares_more false f rest is all = All-cons (Apart snapshots) (file_path w.key f.name) rest (its_file f.name (other_name f.name is)) all

  pub spares_paths : (fs : List File) → All (Apart snapshots) (put_paths (shown_files w.key fs))
  spares_paths [] = All-nil (Apart snapshots)
  spares_paths (f ∷ fs) = spares_more (bytes_eq f.name manifest_name) f (put_paths (shown_files w.key fs)) refl (spares_paths fs)

-- ---- acts

-- all but a FINISH, a FORGET and a CHUNK
abbrev pub spares_on : OnDisk → Bool
spares_on (disk_change new_manifest) = false
spares_on (disk_change (no_snapshot snapshot)) = false
spares_on (disk_change (new_chunk digest checked)) = false
spares_on disk = true

abbrev pub spares_all : Act → Bool
spares_all act = spares_on (profile act).disk

module _ (s : Store) (lane : ℕ) (sound : IsSound s) (k : KeptAt) (shown : k.session ≡ shown_session s.snapshots (session s lane)) where
  by_session : (change : Writing → Change) → ((w : Writer) → IsWriter s.snapshots w → Spares s.snapshots (change (shown_writer w))) → Spares s.snapshots (by_writer k.session change)
  by_session change spares = subst (λ x. Spares s.snapshots (by_writer x change)) (sym shown) (go (session s lane) refl)
    where
      go : (x : model.Session) → session s lane ≡ x → Spares s.snapshots (by_writer (shown_session s.snapshots x) change)
      go model.none at = tt
      go (model.writer w) at = spares w (sound.writers lane w at)
      go (model.reader r) at = tt

  spares_drops : Spares s.snapshots (by_writer k.session (λ w. drops (put_paths w.files)))
  spares_drops = by_session (λ w. drops (put_paths w.files)) (λ w h. spares_paths s.snapshots w sound.each h w.files)

  spares_by : (disk : OnDisk) → spares_on disk ≡ true → Spares s.snapshots (change_on disk k)
  spares_by no_call is = tt
  spares_by only_reads is = tt
  spares_by (disk_change (new_file name checked)) is = by_session (blob_put name checked) (λ w h. spares_blob s.snapshots w sound.each h name checked)
  spares_by (disk_change (new_chunk digest checked)) is = cc
  spares_by (disk_change (new_index number)) is =
      by_session (λ w. index_put (begun_at number (w.session).writer) w) (λ w h. spares_index s.snapshots w sound.each h (begun_at number ((shown_writer w).session).writer))
  spares_by (disk_change new_manifest) is = cc
  spares_by (disk_change no_files) is = spares_drops
  spares_by (disk_change (no_snapshot snapshot)) is = cc
  spares_by (disk_change swept) is = tt

  pub spares_change : (act : Act) → spares_all act ≡ true → Spares s.snapshots (change_of act k)
  spares_change act is = spares_by (profile act).disk is
