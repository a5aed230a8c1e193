-- What a DOWNLOAD tells of the file that is asked for.
use Rattle.disk_trait.specs.declared.disk.Disk.{Ghosts}
use Rattle.std.proofs.Common.{set, ◌≡◌, ℕ, true, false, List, Option, Some, None, Result, Ok, Err, IsErrAnd, IsErrOf, IsTrue, refl, sym, ap, subst, ◌∙◌}
use Rattle.disk_trait.specs.Effects.{OnlyReads}
use Rattle.disk_trait.proofs.OnlyReading.{reads_as}
use Rattle.disk_trait.specs.Files.{Files}
use Rattle.disk_trait.specs.declared.disk.DiskError.TheVariants as disks
use Rattle.store_types.specs.Chain.Refusing.{◌>>=◌}
use Rattle.store_types.specs.declared.refusal.Refusal.{Refusal}
use Rattle.store_types.specs.declared.refusal.Refusal.TheVariants.{BadRange, Unreadable}
use Rattle.wire_commands.specs.declared.reply.Reply.{Reply}
use Rattle.wire_commands.specs.declared.reply.Reply.TheVariants as replies
use Rattle.paged_indexes.specs.declared.kinds.IndexKind.{IndexKind}
use Rattle.snapshot_files.specs.Reads.{StopHasText}
use Rattle.snapshot_files.specs.Indexes.{Indexed, index_at}
use Rattle.snapshot_files.specs.Parts.{IsPart, RefusesPart, part_at, part_reply}
use Rattle.store_stops.specs.declared.stop.Stop.{Stop}
use Rattle.wire_commands.specs.declared.command.Command.TheVariants.{Download}
use Rattle.store_history.specs.declared.act.Act.{Act}
use Rattle.store_history.specs.declared.act.Act.TheVariants.{Plain}
use Rattle.core_state.proofs.Chunks.{adds_same}
use Rattle.store_model.specs.Store.{Store}
use Rattle.core_state.specs.Closing.{closes}
use Rattle.core_state.specs.Commands.{ActDoes, ActLeaves, IsNoRefusal}
use Rattle.core_state.specs.Holds.{Holds}
use Rattle.core_state.specs.Wanted.{session_at}
use Rattle.core_state.specs.declared.entering.Place.{Place}
use Rattle.core_state.specs.declared.kept.Session.{Session}
use Rattle.core_state.specs.declared.parts.Parts.{Parts}
use Rattle.core_state.proofs.Rows.{rows_same}
use Rattle.core_state.proofs.Commanding.{act_does, others_set, reads_disk, stopped_does, stopped_leaves, writes_leaves}
use Rattle.store_history.specs.Replies.{answers_download, may_answer, refuses_download}
use Rattle.core_state.specs.Settles.{kind_by, reply_by}
use Rattle.core_state.specs.Stops.{told}
use Rattle.store_stops.specs.Stops.{IfRefused, Gives}
use Rattle.core_state.specs.Unreadables.{Asked, TellsUnreadable, part_read, read_by}
use Rattle.core_state.specs.Unchanged.{SameKept, is_uncalled}
use Rattle.store_stops.specs.declared.stop.Stop.TheVariants.{Refused, NoMemory, DiskFailed}
use Rattle.core_state.proofs.Unreadables.{refusal_called, tells_failed, tells_other, tells_read}
use Rattle.core_reader.specs.Asked.{GivesTable}
use Rattle.core_reader.specs.declared.downloading.Given.{Given}

-- ---- what a read stops by

-- it fails as the read did
pub read_fails : {A B : Type 0} (read : Result A Stop) (e : Stop) → read ≡ Err e → IsErrOf {T = B} (Err e) DiskFailed → IsErrOf read DiskFailed
read_fails read (Refused refusal) was failed = cc
read_fails read NoMemory was failed = cc
read_fails read DiskFailed was failed = was

refuses_part : (path : List ℕ) (r : Refusal) → RefusesPart path r → refuses_download r ≡ true
refuses_part path (BadRange size) h = refl
refuses_part path (Unreadable name) h = refl
refuses_part path _ h = absurd h

-- by what it gave
pub read_stops : {A B : Type 0} (f : A → B) (wanted : Result B Refusal) (P : Refusal → Type 0) (e : Stop) → Gives f (Err e) wanted → ((r : Refusal) → wanted ≡ Err r → P r) → IfRefused P e
read_stops f wanted P (Refused refusal) gives so = so refusal gives
read_stops f wanted P NoMemory gives so = tt
read_stops f wanted P DiskFailed gives so = tt

pub short_unfailed : {F : Type 0} → IsErrOf {T = Reply} (Err NoMemory) DiskFailed → F
short_unfailed e = cc

true_false : true ≡ false → ⊥
true_false e = cc

-- it comes by a call of the disk
pub part_called : (path : List ℕ) (P : Type 0) (r : Refusal) → RefusesPart path r → is_uncalled r ≡ true → P
part_called path P r kind uncalled = absurd (true_false (sym uncalled ∙ refusal_called path r kind))

pub read_called : (path : List ℕ) (P : Type 0) (e : Stop) → IfRefused (RefusesPart path) e → IfRefused (λ r. is_uncalled r ≡ true → P) e
read_called path P (Refused refusal) h = part_called path P refusal h
read_called path P NoMemory h = tt
read_called path P DiskFailed h = tt

pub read_answers : (path : List ℕ) (e : Stop) → IfRefused (RefusesPart path) e → IfRefused (λ r. IsTrue (refuses_download r)) e
read_answers path (Refused refusal) h = refuses_part path refusal h
read_answers path NoMemory h = tt
read_answers path DiskFailed h = tt

pub read_at : (path q : List ℕ) (e : Stop) → q ≡ path → IfRefused (RefusesPart q) e → IfRefused (RefusesPart path) e
read_at path q e is h = subst (λ p. IfRefused (RefusesPart p) e) is h

pub part_answers : (reply : Reply) → IsPart reply → answers_download reply ≡ true
part_answers (replies.Part total bytes) h = refl
part_answers _ h = absurd h

pub part_plain : (reply : Reply) → IsPart reply → IsNoRefusal reply
part_plain (replies.Part total bytes) h = tt
part_plain _ h = absurd h

-- ---- the records of an act that stopped so

module _ {A D : Type 0} (d : Ghosts D) (old new : Parts D) (at : Place) (act : Act) (read : Result A Stop) (e : Stop) (was : read ≡ Err e) (result : Result Reply Stop) where
  pub stops_does : IsErrAnd result (λ x. x ≡ e) → OnlyReads d old.disk new.disk (IsErrOf read DiskFailed) → SameKept old new → StopHasText e
      → IfRefused (λ refusal. IsTrue (may_answer act (replies.Refused refusal))) e
      → ((s : Store) → Holds d old s → IfRefused (λ refusal. act_does s at.lane at.moment act ≡ Err refusal) e) → ActDoes d old new at act result
  stops_does stops reads kept text answers is =
      let ended : Result Reply Stop = Err e in
      stopped_does d old new at act ended e result stops refl (reads_as d old.disk new.disk _ _ (read_fails read e was) reads) kept text answers is

  pub stops_leaves : (path : List ℕ) → IsErrAnd result (λ x. x ≡ e) → OnlyReads d old.disk new.disk (IsErrOf read DiskFailed) → SameKept old new → reads_disk act ≡ true → IfRefused (RefusesPart path) e
      → (closes act (session_at old at.lane) ≡ true → ⊥) → ActLeaves d old new at act result
  stops_leaves path stops reads kept called kind goes_on =
      stopped_leaves d old new at act e result _ stops reads kept called (read_called path _ e kind) goes_on

-- memory was wanting once the disk was read
module _ {D : Type 0} (d : Ghosts D) (old new : Parts D) (at : Place) (act : Act) (F : Type 0) (result : Result Reply Stop) (stops : IsErrAnd result (λ x. x ≡ NoMemory)) where
  pub short_does : OnlyReads d old.disk new.disk F → SameKept old new → ActDoes d old new at act result
  short_does reads kept =
      let ended : Result Reply Stop = Err NoMemory in
      stopped_does d old new at act ended NoMemory result stops refl (reads_as d old.disk new.disk F _ short_unfailed reads) kept tt tt (λ s h. tt)

  pub short_leaves : OnlyReads d old.disk new.disk F → SameKept old new → reads_disk act ≡ true → (closes act (session_at old at.lane) ≡ true → ⊥) → ActLeaves d old new at act result
  short_leaves reads kept called goes_on = stopped_leaves d old new at act NoMemory result F stops reads kept called tt goes_on

-- done, where the lane's session alone has changed
pub noted_leaves : {D : Type 0} (d : Ghosts D) (old new : Parts D) (at : Place) (file : List ℕ) (offset : ℕ) (reply : Reply) (F : Type 0) → IsNoRefusal reply → OnlyReads d old.disk new.disk F
    → new.catalogue.listed ≡ old.catalogue.listed → (left : Session) → new.sessions.items ≡ set old.sessions.items at.lane left → new.indexes.items ≡ old.indexes.items → ActLeaves d old new at (Plain (Download file offset)) (Ok reply)
noted_leaves d old new at file offset reply F plain reads same left sets rows =
    writes_leaves d old new at (Plain (Download file offset)) reply plain refl reads.same reads.crash tt same (λ e. cc) (adds_same d old new (Plain (Download file offset)) (Ok reply) reads.same) (λ e. cc) (λ e. cc)
    (rows_same old new.indexes.items at.lane (Plain (Download file offset)) rows) (others_set old new at.lane left sets)

-- ---- what is told

module _ {D : Type 0} (d : Ghosts D) (disk : D) where
  abbrev pub Tells : Option Asked → Result Reply Stop → Type 0
  Tells asked result = TellsUnreadable d disk asked (kind_by (told result)) (Some (reply_by (told result)))

  pub tells_by : (asked : Option Asked) (stop : Stop) (result : Result Reply Stop) → IsErrAnd result (λ x. x ≡ stop) → Tells asked (Err stop) → Tells asked result
  tells_by asked stop (Ok reply) is tells = absurd is
  tells_by asked stop (Err x) is tells = subst (λ y. Tells asked (Err y)) (sym is) tells

  -- stopped before it is read
  pub tells_unread : (asked : Option Asked) (stop : Stop) (result : Result Reply Stop) → IsErrAnd result (λ x. x ≡ stop)
      → IfRefused (λ refusal. (asked ≡ None) × ((name : List ℕ) → refusal ≡ Unreadable name → ⊥)) stop → Tells asked result
  tells_unread asked stop result stops none = tells_by asked stop result stops (by_stop stop none)
    where
      same : (r : Refusal) (name : List ℕ) → Some (replies.Refused r) ≡ Some (replies.Refused (Unreadable name)) → r ≡ Unreadable name
      same r name e = cc

      by_stop : (stop : Stop) → IfRefused (λ refusal. (asked ≡ None) × ((name : List ℕ) → refusal ≡ Unreadable name → ⊥)) stop → Tells asked (Err stop)
      by_stop (Refused refusal) h = tells_other d disk asked 0 (Some (replies.Refused refusal)) (λ name e. h.1 name (same refusal name e)) h.0
      by_stop NoMemory h = tells_failed d disk asked disks.NoMemory
      by_stop DiskFailed h = tells_failed d disk asked disks.Failed

  -- stopped by what was read
  pub tells_stopped : {A B : Type 0} (f : A → Reply) (asked : Option Asked) (a : Asked) (read : Result B Stop) (e : Stop) → read ≡ Err e → (result : Result Reply Stop) → IsErrAnd result (λ x. x ≡ e) → asked ≡ Some a
      → IfRefused (RefusesPart a.path) e → (d.honest disk → Gives f (Err e) (part_read (d.content disk) a)) → Tells asked result
  tells_stopped f asked a read e was result stops is kind gives = tells_by asked e result stops (by_error e kind gives)
    where
      by_error : (e : Stop) → IfRefused (RefusesPart a.path) e → (d.honest disk → Gives f (Err e) (part_read (d.content disk) a)) → Tells asked (Err e)
      by_error (Refused refusal) kind gives = tells_read d disk asked a (Err refusal) is kind (λ h. sym (gives h))
      by_error NoMemory kind gives = tells_failed d disk asked disks.NoMemory
      by_error DiskFailed kind gives = tells_failed d disk asked disks.Failed

  -- the part is given
  pub tells_given : (asked : Option Asked) (a : Asked) (part : Reply) → asked ≡ Some a → IsPart part → (d.honest disk → part_read (d.content disk) a ≡ Ok part) → Tells asked (Ok part)
  tells_given asked a part is kind gives = tells_read d disk asked a (Ok part) is kind (λ h. sym (gives h))

-- ---- what is asked for, and what is read

part_asked : (m : Files) (path q : List ℕ) (offset : ℕ) (whole : Option IndexKind) → q ≡ path → whole ≡ None → part_at m q offset ≡ read_by whole m path offset
part_asked m path q offset whole is none = ap (λ p. part_at m p offset) is ∙ ap (λ w. read_by w m path offset) (sym none)

index_asked : (m : Files) (path q : List ℕ) (offset : ℕ) (of_kind : IndexKind) (whole : Option IndexKind) → q ≡ path → whole ≡ Some of_kind
    → (index_at m q of_kind offset >>= λ x. Ok x.part) ≡ read_by whole m path offset
index_asked m path q offset of_kind whole is some = ap (λ p. read_by (Some of_kind) m p offset) is ∙ ap (λ w. read_by w m path offset) (sym some)

-- no part, and so no reply
pub as_reply : (e : Stop) (wanted : Result Reply Refusal) → Gives part_reply (Err e) wanted → Gives {A = Reply} (λ part. part) (Err e) wanted
as_reply (Refused refusal) wanted is = is
as_reply NoMemory wanted is = tt
as_reply DiskFailed wanted is = tt

pub part_stop : (m : Files) (path q : List ℕ) (offset : ℕ) (whole : Option IndexKind) (e : Stop) → q ≡ path → whole ≡ None → Gives part_reply (Err e) (part_at m q offset)
    → Gives {A = Reply} (λ part. part) (Err e) (read_by whole m path offset)
part_stop m path q offset whole e is none gives = subst (λ w. Gives {A = Reply} (λ part. part) (Err e) w) (part_asked m path q offset whole is none) (as_reply e _ gives)

pub part_got : (m : Files) (path q : List ℕ) (offset : ℕ) (whole : Option IndexKind) (part : Reply) → q ≡ path → whole ≡ None → part_at m q offset ≡ Ok part → read_by whole m path offset ≡ Ok part
part_got m path q offset whole part is none gives = sym (part_asked m path q offset whole is none) ∙ gives

pub index_stop : (m : Files) (path q : List ℕ) (offset : ℕ) (of_kind : IndexKind) (whole : Option IndexKind) (e : Stop) → q ≡ path → whole ≡ Some of_kind → GivesTable m q of_kind offset (Err e)
    → Gives {A = Reply} (λ part. part) (Err e) (read_by whole m path offset)
index_stop m path q offset of_kind whole e is some gives = subst (λ w. Gives {A = Reply} (λ part. part) (Err e) w) (index_asked m path q offset of_kind whole is some) (index_part e gives)
  where
    index_part : (e : Stop) → GivesTable m q of_kind offset (Err e) → Gives {A = Reply} (λ part. part) (Err e) (index_at m q of_kind offset >>= λ x. Ok x.part)
    index_part (Refused refusal) is = ap (λ (w : Result Indexed Refusal). w >>= λ x. Ok x.part) is
    index_part NoMemory is = tt
    index_part DiskFailed is = tt

-- what an index stops by
pub table_stops : (m : Files) (q : List ℕ) (of_kind : IndexKind) (offset : ℕ) (P : Refusal → Type 0) (e : Stop) → GivesTable m q of_kind offset (Err e)
    → ((r : Refusal) → index_at m q of_kind offset ≡ Err r → P r) → IfRefused P e
table_stops m q of_kind offset P (Refused refusal) gives so = so refusal gives
table_stops m q of_kind offset P NoMemory gives so = tt
table_stops m q of_kind offset P DiskFailed gives so = tt

pub index_got : (m : Files) (path q : List ℕ) (offset : ℕ) (of_kind : IndexKind) (whole : Option IndexKind) (x : Indexed) → q ≡ path → whole ≡ Some of_kind → index_at m q of_kind offset ≡ Ok x → read_by whole m path offset ≡ Ok x.part
index_got m path q offset of_kind whole x is some gives = sym (index_asked m path q offset of_kind whole is some) ∙ ap (λ (w : Result Indexed Refusal). w >>= λ x. Ok x.part) gives

-- an index that is not read
pub table_unread : (m : Files) (q : List ℕ) (of_kind : IndexKind) (offset : ℕ) (result : Result Given Stop) (e : Stop) → IsErrAnd result (λ x. x ≡ e) → IfRefused (λ r. index_at m q of_kind offset ≡ Err r) e
    → GivesTable m q of_kind offset result
table_unread m q of_kind offset (Ok g) e is h = absurd is
table_unread m q of_kind offset (Err x) e is h = subst (λ s. GivesTable m q of_kind offset (Err s)) (sym is) (by_stop e h)
  where
    by_stop : (e : Stop) → IfRefused (λ r. index_at m q of_kind offset ≡ Err r) e → GivesTable m q of_kind offset (Err e)
    by_stop (Refused r) h = h
    by_stop NoMemory h = tt
    by_stop DiskFailed h = tt
