-- What a FORGET answers, and what it leaves, by what was found.
use Rattle.std.proofs.Common.{◌≡◌, ◌<◌, ◌^◌, ℕ, true, false, IsTrue, map, List, [], ◌∷◌, Some, None, Result, Ok, Err, IsErrOf, IsErrAnd, inl, inr, refl, sym, ap, subst, ◌∙◌, arith}
use Rattle.std.specs.FinMap.{get, remove}
use Rattle.std.specs.Result.{result_ok}
use Rattle.sha2.specs.Sha256.{sha256}
use Rattle.disk_trait.specs.Disk.{Serves, Steps, Same, Now, After}
use Rattle.disk_trait.specs.Effects.{SameContent}
use Rattle.disk_trait.specs.Files.{Files}
use Rattle.disk_trait.specs.Laws.{placed_same, placed_other, by_name}
use Rattle.disk_trait.specs.declared.disk.Disk.{Ghosts}
use Rattle.disk_trait.specs.declared.disk.DiskError.{DiskError}
use Rattle.disk_trait.specs.declared.disk.DiskError.TheVariants.{NoMemory}
use Rattle.store_types.specs.declared.names.SnapshotKey.{SnapshotKey}
use Rattle.store_types.specs.declared.refusal.Refusal.{Refusal}
use Rattle.store_types.specs.declared.refusal.Refusal.TheVariants.{SnapshotBusy}
use Rattle.store_types.specs.Chain.Refusing.{◌>>=◌}
use Rattle.store_types.specs.Names.{IsKey, key_of}
use Rattle.store_files.specs.Folder.{chunk_name, file_path, manifest_path}
use Rattle.wire_commands.specs.HasText.{ReplyHasText}
use Rattle.wire_commands.specs.RefusalText.{refusal_text}
use Rattle.wire_commands.specs.ReplyText.{reply_text}
use Rattle.wire_commands.specs.declared.command.Command.TheVariants.{Forget}
use Rattle.wire_commands.specs.declared.reply.Reply.{Reply}
use Rattle.wire_commands.specs.declared.reply.Reply.TheVariants.{Done, Refused}
use Rattle.snapshot_files.specs.Forgotten.{Forgets, ForgetsFirm, without}
use Rattle.store_history.specs.declared.act.Act.{Act}
use Rattle.store_history.specs.declared.act.Act.TheVariants.{Plain}
use Rattle.core_state.specs.Catalogue.{without_listed, without_named}
use Rattle.core_state.specs.Changes.{Change, IsFirm, LeavesChange, MayLeave, after, forgets, forgotten, names_beside}
use Rattle.core_state.specs.Commands.{ActDoes, ActLeaves, change_at}
use Rattle.core_state.specs.Found.{kept_named}
use Rattle.core_state.specs.Kept.{KeptAt, kept_at}
use Rattle.store_history.specs.Replies.{answers_forget, reply_told}
use Rattle.store_stops.specs.Stops.{stop_of}
use Rattle.core_state.specs.Unchanged.{SameKept}
use Rattle.core_state.specs.declared.entering.Place.{Place}
use Rattle.core_state.specs.declared.kept.Kept.{Kept}
use Rattle.core_state.specs.declared.parts.Parts.{Parts}
use Rattle.store_stops.specs.declared.stop.Stop.{Stop}
use Rattle.core_state.proofs.Rows.{rows_same}
use Rattle.core_state.proofs.Commanding.{failed_leaves, others_same, writes_does, writes_leaves}
use Rattle.core_state.proofs.Naming.{kept_key, named_is}
use Rattle.core_state.proofs.Texts.{done_has_text}
use Rattle.core_admin.specs.Forgotten.{to_forget, forget_told}
use Rattle.core_admin.proofs.TakenOut.{forget_found, forget_passes, forget_refusals, forget_step}

pub snapshot_busy_has_text : (lane : ℕ) → lane < 2 ^ 32 → ReplyHasText (Refused (SnapshotBusy lane))
unfolding reply_text refusal_text
snapshot_busy_has_text lane lt = (lt, omega arith)

-- ---- what is told

pub told_done : (text : List ℕ) (k : KeptAt) (key : SnapshotKey) → to_forget text k ≡ Ok key → Done ≡ reply_told (forget_told text k)
told_done text k key is = sym (ap (λ (t : Result SnapshotKey Refusal). reply_told (t >>= λ key. Ok Done)) is)

-- each refusal of its tests is one of FORGET's
pub forget_answers : (text : List ℕ) (k : KeptAt) (r : Refusal) → to_forget text k ≡ Err r → IsTrue (answers_forget (Refused r))
forget_answers text k r e = forget_refusals (λ r. IsTrue (answers_forget (Refused r))) text k (λ state. refl) refl refl (λ lane. refl) r e

-- ---- its files

-- what is there was there before
stood_before : (names : List (List ℕ)) (m : Files) (q v : List ℕ) → get (without names m) q ≡ Some v → get m q ≡ Some v
stood_before [] m q v e = e
stood_before (name ∷ names) m q v e =
    let later : get (remove m name) q ≡ Some v = stood_before names (remove m name) q v e in
    by_name q name (get m q ≡ Some v)
    (λ same. absurd (none_some v (sym (ap (get (remove m name)) same ∙ placed_same m name None) ∙ later)))
    (λ other. sym (placed_other m name None q other) ∙ later)
  where
    none_some : (v : List ℕ) → None ≡ Some v → ⊥
    none_some v e = cc

never : false ≡ true → ⊥
never e = cc

module _ {D : Type 0} (d : Ghosts D) (old new : Parts D) (at : Place) (text : List ℕ) (key : SnapshotKey) (k : Kept) (names : List (List ℕ))
    (told : to_forget text (kept_at old at.lane) ≡ Ok key) (there : kept_named key old.catalogue.listed ≡ Some k) (names_are : names ≡ names_beside k.files) where
  abbrev paths : List (List ℕ)
  paths = map (file_path key) names

  abbrev act : Act
  act = Plain (Forget text)

  named : key_of text ≡ Some key
  named = (forget_found text (kept_at old at.lane) key told).0

  change_is : change_at old at.lane act ≡ forgets (manifest_path key) paths
  change_is =
      ap (λ r. forgotten (result_ok r)) (named_is text (kept_at old at.lane) key k named there)
      ∙ ap (λ (q : SnapshotKey). forgets (manifest_path q) (map (file_path q) (names_beside k.files))) (kept_key old.catalogue.listed key k there)
      ∙ ap (λ (ns : List (List ℕ)). forgets (manifest_path key) (map (file_path key) ns)) (sym names_are)

  goes : Steps d.calls d.images old.disk new.disk (Forgets (manifest_path key) paths) → LeavesChange d old.disk new.disk (change_at old at.lane act)
  goes first = inr (subst (λ (change : Change). Steps d.calls d.images old.disk new.disk (MayLeave change (d.content old.disk))) (sym change_is) first)

  -- done: just its files are gone, its manifest first and for good
  pub done_leaves : new.catalogue.listed ≡ without_listed key old.catalogue.listed → new.sessions.items ≡ old.sessions.items → new.locks ≡ old.locks → new.indexes.items ≡ old.indexes.items
      → (d.honest old.disk → d.content new.disk ≡ without (manifest_path key ∷ paths) (d.content old.disk))
      → Steps d.calls d.images old.disk new.disk (Forgets (manifest_path key) paths)
      → Now d.calls d.images new.disk (After d.calls d.images old.disk (ForgetsFirm (d.content old.disk) (manifest_path key) paths))
      → ActLeaves d old new at act (Ok Done)
  done_leaves c l locks rows gone first firm =
      writes_leaves d old new at act Done tt refl (λ h. gone h ∙ sym (ap (λ (change : Change). after change (d.content old.disk)) change_is)) (goes first)
      (subst (λ (change : Change). IsFirm d old.disk new.disk change) (sym change_is) firm) (c ∙ sym (ap (λ o. without_named o old.catalogue.listed) named)) (λ _. (l, locks))
      (λ s h p held. inl (stood_before (manifest_path key ∷ paths) (d.content old.disk) (chunk_name (sha256 p)) _ (sym (ap (λ m. get m (chunk_name (sha256 p))) (gone h.honest)) ∙ held)))
      (λ e. absurd (never e)) (λ e. absurd (never e)) (rows_same old new.indexes.items at.lane act rows) (others_same old new at.lane l)

  pub done_does : (failed : Type 0) → Serves d.honest d.faults old.disk new.disk failed → at.lane < 64 → IsKey key → (d.honest old.disk → d.content new.disk ≡ without (manifest_path key ∷ paths) (d.content old.disk))
      → new.catalogue.listed ≡ without_listed key old.catalogue.listed → new.sessions.items ≡ old.sessions.items → new.locks ≡ old.locks → new.indexes.items ≡ old.indexes.items
      → ActDoes d old new at act (Ok Done)
  done_does failed serves lt is gone c l locks rows =
      writes_does d old new at act Done failed serves done_has_text refl tt
      (λ _ s h. forget_step d old new s at.lane at.moment text key k h lt told there is
      (λ honest. gone honest ∙ ap (λ (ns : List (List ℕ)). without (manifest_path key ∷ map (file_path key) ns) (d.content old.disk)) names_are) c l locks rows)

  -- its files were not removed: want of memory comes before the first call that changes the disk
  pub undone_leaves : {A : Type 0} (removed : Result A DiskError) (e : DiskError) (result : Result Reply Stop) → IsErrAnd result (λ x. x ≡ stop_of e) → removed ≡ Err e → SameKept old new
      → at.lane < 64 → Steps d.calls d.images old.disk new.disk (Forgets (manifest_path key) paths)
      → (IsErrOf removed NoMemory → SameContent d old.disk new.disk) → (IsErrOf removed NoMemory → Steps d.calls d.images old.disk new.disk Same)
      → ActLeaves d old new at act result
  undone_leaves removed e result stops was kept lt first same unmoved =
      failed_leaves d old new at act removed e result stops was same (λ short. inr (unmoved short)) (goes first) kept refl (λ _ closing. never closing)
      (λ s h. forget_passes old s at.lane at.moment text key h.shows lt told)
