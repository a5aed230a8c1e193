-- What a RANGE tells, by what was read.
use Rattle.disk_trait.specs.declared.disk.Disk.{Ghosts}
use Rattle.std.proofs.Common.{◌≡◌, ◌+◌, ◌<◌, ◌≤◌, ℕ, length, arith, true, false, List, Some, None, Result, Ok, Err, IfErr, IsErrAnd, IsTrue, refl, sym, ap, subst, ◌∙◌}
use Rattle.std.specs.Option.{option_map}
use Rattle.std.specs.Result.{result_ok}
use Rattle.disk_trait.specs.Files.{Files}
use Rattle.disk_trait.specs.declared.disk.DiskError.TheVariants as disks
use Rattle.store_types.specs.declared.names.Digest32.{Digest32}
use Rattle.store_types.specs.declared.refusal.ChunkFault.{ChunkFault}
use Rattle.store_types.specs.declared.refusal.Refusal.{Refusal}
use Rattle.store_types.specs.declared.refusal.Refusal.TheVariants.{WrongState, BadName, NoFile, NotAllowed, TooMany, BadRange, Damaged, Unreadable}
use Rattle.store_types.specs.Chain.Refusing.{◌>>=◌}
use Rattle.wire_commands.specs.declared.reply.Reply.{Reply}
use Rattle.wire_commands.specs.declared.reply.Reply.TheVariants.{Data, Refused}
use Rattle.wire_frames.specs.Frames.{body_limit}
use Rattle.wire_commands.specs.declared.command.Command.TheVariants.{Range}
use Rattle.store_model.specs.Store.{Store}
use Rattle.store_model.specs.Steps.{outcome}
use Rattle.core_state.specs.Kept.{KeptAt, kept_at}
use Rattle.core_state.specs.declared.parts.Parts.{Parts}
use Rattle.core_state.specs.Holds.{Holds}
use Rattle.store_history.specs.Replies.{refuses_range, reply_told}
use Rattle.core_state.specs.declared.entering.Place.{Place}
use Rattle.wire_commands.specs.HasText.{ReplyHasText}
use Rattle.restore_reader.specs.Answers.{RefusesRange as PlanRefuses}
use Rattle.core_state.proofs.Texts.{bad_range_has_text, not_allowed_has_text, too_many_has_text}
use Rattle.core_state.specs.Settles.{kind_by, reply_by}
use Rattle.core_state.specs.Stops.{told}
use Rattle.core_state.specs.Unchanged.{is_uncalled}
use Rattle.core_state.specs.Unreadables.{Asked, TellsUnreadable, part_read}
use Rattle.core_state.proofs.Unreadables.{tells_failed, tells_other}
use Rattle.store_stops.specs.declared.stop.Stop.{Stop}
use Rattle.store_stops.specs.declared.stop.Stop.TheVariants as stops
use Rattle.store_stops.specs.Stops.{Gives, IfRefused}
use Rattle.snapshot_files.specs.Reads.{StopHasText}
use Rattle.core_reader.specs.AnsweredBy.{ActReads, bytes_told}
use Rattle.core_reader.specs.Asked.{as_range}
use Rattle.core_state.specs.Damages.{TellsDamaged}
use Rattle.core_reader.specs.Damages.{MayNeed, damage_in}
use Rattle.core_reader.specs.Chunks.{IsUnrefused}
use Rattle.core_reader.specs.Ranges.{RangeAsked, RangeRefuses, RefusesAsked, StandsAsked, range_asked, range_place, range_told, range_with}
use Rattle.core_state.proofs.DamageLemmas.{damages_failed, damages_none, damages_told}
use Rattle.core_reader.proofs.Ranging.{asked_refuses, asked_unplaced, range_given, range_is, range_refused, range_stands, refuses_asked}
use Rattle.core_reader.proofs.ReadTold.{stop_told}
use Rattle.core_reader.proofs.Telling.{Tells, tells_by}

true_false : true ≡ false → ⊥
true_false e = cc

-- ---- by the refusal

refused_same : (q r : Refusal) → Some (Refused q) ≡ Some (Refused r) → q ≡ r
refused_same q r e = cc

reading_err : (q r : Refusal) → ◌≡◌ {A = Result Reply Refusal} (Err q) (Err r) → q ≡ r
reading_err q r e = cc

asked_unreadable : (q : Refusal) (name : List ℕ) → refuses_asked q ≡ true → q ≡ Unreadable name → ⊥
asked_unreadable q name h e = true_false (sym h ∙ ap refuses_asked e)

asked_damaged : (q : Refusal) (d : Digest32) (f : ChunkFault) → refuses_asked q ≡ true → q ≡ Damaged d f → ⊥
asked_damaged q d f h e = true_false (sym h ∙ ap refuses_asked e)

asked_answers : (q : Refusal) → refuses_asked q ≡ true → refuses_range q ≡ true
asked_answers (WrongState state) h = refl
asked_answers BadName h = refl
asked_answers NoFile h = refl
asked_answers NotAllowed h = refl
asked_answers (TooMany limit) h = refl
asked_answers (BadRange size) h = refl
asked_answers _ h = absurd (true_false (sym h))

read_answers : (a : RangeAsked) (from to : ℕ) (q : Refusal) → RangeRefuses (Ok a) from to q → refuses_range q ≡ true
read_answers a from to (Unreadable name) h = refl
read_answers a from to (Damaged d f) h = refl
read_answers a from to _ h = absurd h

read_called : (a : RangeAsked) (from to : ℕ) (q : Refusal) → RangeRefuses (Ok a) from to q → is_uncalled q ≡ false
read_called a from to (Unreadable name) h = refl
read_called a from to (Damaged d f) h = refl
read_called a from to _ h = absurd h

read_names : (a : RangeAsked) (from to : ℕ) (q : Refusal) (name : List ℕ) → RangeRefuses (Ok a) from to q → q ≡ Unreadable name → (a.index).path ≡ name
read_names a from to q name h e = sym (subst (RangeRefuses (Ok a) from to) e h)

-- the refusal is one of a RANGE
pub range_answers : (asked : Result RangeAsked Refusal) (from to : ℕ) (stop : Stop) → IfErr asked (λ r. refuses_asked r ≡ true) → IfRefused (RangeRefuses asked from to) stop → IfRefused (λ r. IsTrue (refuses_range r)) stop
range_answers (Ok a) from to (stops.Refused q) sound h = read_answers a from to q h
range_answers (Err told) from to (stops.Refused q) sound h = subst (λ r. refuses_range r ≡ true) (sym h) (asked_answers told sound)
range_answers asked from to stops.NoMemory sound h = tt
range_answers asked from to stops.DiskFailed sound h = tt

-- ---- that a page is unreadable

module _ {D : Type 0} (d : Ghosts D) (disk : D) where
  -- a file that is read so
  tells_refusal : (a : Asked) (q : Refusal) → ((name : List ℕ) → q ≡ Unreadable name → a.path ≡ name) → (d.honest disk → part_read (d.content disk) a ≡ Err q)
      → TellsUnreadable d disk (Some a) 0 (Some (Refused q))
  tells_refusal a q names reads = record {
    named = λ name e. ap Some (names name (refused_same q (Unreadable name) e));
    cause = λ name b e at h. ap (part_read (d.content disk)) (sym (same b at)) ∙ reads h ∙ ap Err (refused_same q (Unreadable name) e);
    missing = λ name b k at h gives. ap (λ r. Some (Refused r)) (reading_err q (Unreadable name) (sym (reads h) ∙ ap (part_read (d.content disk)) (same b at) ∙ gives));
  }
    where
      same : (b : Asked) → Some a ≡ Some b → a ≡ b
      same b e = cc

  tells_data : (a : Asked) (bytes : List ℕ) → (d.honest disk → part_read (d.content disk) a ≡ Ok (Data bytes)) → TellsUnreadable d disk (Some a) 0 (Some (Data bytes))
  tells_data a bytes reads = record {
    named = λ name e. absurd (apart name e);
    cause = λ name b e at h. absurd (apart name e);
    missing = λ name b k at h gives. absurd (ok_err name (sym (reads h) ∙ ap (part_read (d.content disk)) (same b at) ∙ gives));
  }
    where
      same : (b : Asked) → Some a ≡ Some b → a ≡ b
      same b e = cc

      apart : (name : List ℕ) → Some (Data bytes) ≡ Some (Refused (Unreadable name)) → ⊥
      apart name e = cc

      ok_err : (name : List ℕ) → ◌≡◌ {A = Result Reply Refusal} (Ok (Data bytes)) (Err (Unreadable name)) → ⊥
      ok_err name e = cc

  abbrev read : Result (List ℕ) Refusal → Result Reply Refusal
  read r = r >>= λ bytes. Ok (Data bytes)

  pub range_unreadable : {A : Type 0} (f : A → List ℕ) (asked : Result RangeAsked Refusal) (from to : ℕ) (stop : Stop) (result : Result Reply Stop) → IsErrAnd result (λ x. x ≡ stop)
      → IfErr asked (λ r. refuses_asked r ≡ true) → IfRefused (RangeRefuses asked from to) stop
      → (d.honest disk → Gives f (Err stop) (asked >>= λ a. range_with (d.content disk) a from to)) → Tells d disk (option_map (as_range from to) (result_ok asked)) result
  range_unreadable {A} f asked from to stop result is sound h gives = tells_by d disk (option_map (as_range from to) (result_ok asked)) stop result is (by_case asked stop sound h gives)
    where
      by_case : (asked : Result RangeAsked Refusal) (stop : Stop) → IfErr asked (λ r. refuses_asked r ≡ true) → IfRefused (RangeRefuses asked from to) stop
          → (d.honest disk → Gives f (Err stop) (asked >>= λ a. range_with (d.content disk) a from to)) → Tells d disk (option_map (as_range from to) (result_ok asked)) (Err stop)
      by_case (Ok a) (stops.Refused q) sound h gives = tells_refusal (as_range from to a) q (λ name e. read_names a from to q name h e) (λ honest. ap read (gives honest))
      by_case (Err r) (stops.Refused q) sound h gives =
          tells_other d disk None 0 (Some (Refused q)) (λ name e. asked_unreadable r name sound (sym h ∙ refused_same q (Unreadable name) e)) refl
      by_case asked stops.NoMemory sound h gives = tells_failed d disk (option_map (as_range from to) (result_ok asked)) disks.NoMemory
      by_case asked stops.DiskFailed sound h gives = tells_failed d disk (option_map (as_range from to) (result_ok asked)) disks.Failed

  pub range_readable : (asked : Result RangeAsked Refusal) (from to : ℕ) (bytes : List ℕ) → (d.honest disk → (asked >>= λ a. range_with (d.content disk) a from to) ≡ Ok bytes)
      → Tells d disk (option_map (as_range from to) (result_ok asked)) (Ok (Data bytes))
  range_readable (Ok a) from to bytes gives = tells_data (as_range from to a) bytes (λ honest. ap read (gives honest))
  range_readable (Err r) from to bytes gives = tells_other d disk None 0 (Some (Data bytes)) (λ name e. cc) refl

  -- ---- that a chunk is damaged

  abbrev pub TellsRange : Result RangeAsked Refusal → ℕ → ℕ → Result Reply Stop → Type 0
  TellsRange asked from to result =
      TellsDamaged d disk (MayNeed asked from to) (λ m. damage_in (asked >>= λ a. range_with m a from to)) (kind_by (told result)) (Some (reply_by (told result)))

  pub range_damaged : {A : Type 0} (f : A → List ℕ) (asked : Result RangeAsked Refusal) (from to : ℕ) (stop : Stop) (result : Result Reply Stop) → IsErrAnd result (λ x. x ≡ stop)
      → IfErr asked (λ r. refuses_asked r ≡ true) → IfRefused (RangeRefuses asked from to) stop
      → (d.honest disk → Gives f (Err stop) (asked >>= λ a. range_with (d.content disk) a from to)) → TellsRange asked from to result
  range_damaged {A} f asked from to stop (Ok reply) is sound h gives = absurd is
  range_damaged {A} f asked from to stop (Err x) is sound h gives = subst (λ y. TellsRange asked from to (Err y)) (sym is) (by_case asked stop sound h gives)
    where
      whole : (m : Files) (q : Refusal) (r : Result (List ℕ) Refusal) → r ≡ Err q → ((dg : Digest32) (fault : ChunkFault) → q ≡ Damaged dg fault → ⊥) → damage_in r ≡ None
      whole m q r e none = ap damage_in e ∙ by_refusal q none
        where
          by_refusal : (q : Refusal) → ((dg : Digest32) (fault : ChunkFault) → q ≡ Damaged dg fault → ⊥) → damage_in (Err q) ≡ None
          by_refusal (Damaged dg fault) none = absurd (none dg fault refl)
          by_refusal _ none = refl

      by_read : (a : RangeAsked) (q : Refusal) → RangeRefuses (Ok a) from to q → (d.honest disk → range_with (d.content disk) a from to ≡ Err q) → TellsRange (Ok a) from to (Err (stops.Refused q))
      by_read a (Damaged dg fault) h gives =
          damages_told d disk (MayNeed (Ok a) from to) (λ m. damage_in (range_with m a from to)) dg fault (Damaged dg fault) refl h (λ honest. ap damage_in (gives honest))
      by_read a (Unreadable name) h gives =
          damages_none d disk (MayNeed (Ok a) from to) (λ m. damage_in (range_with m a from to)) 0 (Some (Refused (Unreadable name))) (λ dg fault e. cc) (λ honest. ap damage_in (gives honest))
      by_read a _ h gives = absurd h

      by_case : (asked : Result RangeAsked Refusal) (stop : Stop) → IfErr asked (λ r. refuses_asked r ≡ true) → IfRefused (RangeRefuses asked from to) stop
          → (d.honest disk → Gives f (Err stop) (asked >>= λ a. range_with (d.content disk) a from to)) → TellsRange asked from to (Err stop)
      by_case (Ok a) (stops.Refused q) sound h gives = by_read a q h gives
      by_case (Err r) (stops.Refused q) sound h gives =
          damages_none d disk (MayNeed (Err r) from to) (λ m. damage_in (Err r)) 0 (Some (Refused q))
          (λ dg fault e. asked_damaged r dg fault sound (sym h ∙ refused_same q (Damaged dg fault) e))
          (λ honest. whole (d.content disk) r (Err r) refl (λ dg fault e. asked_damaged r dg fault sound e))
      by_case asked stops.NoMemory sound h gives = damages_failed d disk (MayNeed asked from to) (λ m. damage_in (asked >>= λ a. range_with m a from to)) disks.NoMemory
      by_case asked stops.DiskFailed sound h gives = damages_failed d disk (MayNeed asked from to) (λ m. damage_in (asked >>= λ a. range_with m a from to)) disks.Failed

  pub range_undamaged : (asked : Result RangeAsked Refusal) (from to : ℕ) (bytes : List ℕ) → (d.honest disk → (asked >>= λ a. range_with (d.content disk) a from to) ≡ Ok bytes)
      → TellsRange asked from to (Ok (Data bytes))
  range_undamaged asked from to bytes gives =
      damages_none d disk (MayNeed asked from to) (λ m. damage_in (asked >>= λ a. range_with m a from to)) 0 (Some (Data bytes)) (λ dg fault e. cc) (λ honest. ap damage_in (gives honest))

-- ---- what is told

module _ {D : Type 0} (d : Ghosts D) (old : Parts D) (at : Place) (file : List ℕ) (offset len : ℕ) where
  abbrev bytes_here : Result (List ℕ) Refusal
  bytes_here = range_told file offset len (d.content old.disk) (kept_at old at.lane)

  abbrev told_here : Result Reply Refusal
  told_here = bytes_told file offset len (d.content old.disk) (kept_at old at.lane)

  -- the refusal
  pub range_untold : {A : Type 0} (f : A → List ℕ) (stop : Stop) (result : Result Reply Stop) → IsErrAnd result (λ x. x ≡ stop) → (d.honest old.disk → Gives f (Err stop) bytes_here)
      → ActReads d (bytes_told file offset len) old at result
  range_untold {A} f stop result is gives = λ honest. stop_told told_here stop result is (by_stop stop (gives honest))
    where
      by_stop : (stop : Stop) → Gives {A = A} f (Err stop) bytes_here → Gives {A = Reply} (λ reply. reply) (Err stop) told_here
      by_stop (stops.Refused refusal) gives = ap (λ (r : Result (List ℕ) Refusal). r >>= λ bytes. Ok (Data bytes)) gives
      by_stop stops.NoMemory gives = tt
      by_stop stops.DiskFailed gives = tt

  -- the bytes
  pub range_tells : (bytes : List ℕ) → (d.honest old.disk → bytes_here ≡ Ok bytes) → ActReads d (bytes_told file offset len) old at (Ok (Data bytes))
  range_tells bytes gives = λ honest. sym (ap reply_told (ap (λ (r : Result (List ℕ) Refusal). r >>= λ b. Ok (Data b)) (gives honest)))

-- ---- beside the plain store

pub sound : (file : List ℕ) (offset len : ℕ) (k : KeptAt) → IfErr (range_asked file offset len k) (λ r. refuses_asked r ≡ true)
sound file offset len k = by_asked (range_asked file offset len k) refl
  where
    by_asked : (q : Result RangeAsked Refusal) → range_asked file offset len k ≡ q → IfErr q (λ r. refuses_asked r ≡ true)
    by_asked (Ok a) e = tt
    by_asked (Err r) e = asked_refuses file offset len k r e

module _ {D : Type 0} (d : Ghosts D) (old : Parts D) (s : Store) (lane moment : ℕ) (file : List ℕ) (offset len : ℕ) (h : Holds d old s) (lt : lane < 64) where
  abbrev asked : Result RangeAsked Refusal
  asked = range_asked file offset len (kept_at old lane)

  -- it is refused as the plain store refuses it, and nothing that is read is refused
  pub range_refused_plainly : (A : Type 0) (stop : Stop) → IfRefused (RangeRefuses asked offset (offset + len)) stop
      → ((a : RangeAsked) → asked ≡ Ok a → d.honest old.disk → StandsAsked (d.content old.disk) a → IsUnrefused {A = A} (Err stop))
      → IfRefused (λ refusal. outcome s lane moment (Range file offset len) ≡ Err refusal) stop
  range_refused_plainly A (stops.Refused q) refuses unrefused = by_asked asked refl refuses
    where
      by_asked : (r : Result RangeAsked Refusal) → asked ≡ r → RangeRefuses r offset (offset + len) q → outcome s lane moment (Range file offset len) ≡ Err q
      by_asked (Ok a) e is = absurd (unrefused a e h.honest (range_stands (d.content old.disk) old s lane file offset len h.shows h.files lt a e))
      by_asked (Err told) e is =
          range_is s lane file offset len moment ∙ range_refused (d.content old.disk) old s lane file offset len h.shows h.files lt told e ∙ ap Err (sym is)
  range_refused_plainly A stops.NoMemory refuses unrefused = tt
  range_refused_plainly A stops.DiskFailed refuses unrefused = tt

  pub range_given_plainly : (bytes sent : List ℕ) → (asked >>= λ a. range_with (d.content old.disk) a offset (offset + len)) ≡ Ok bytes → sent ≡ bytes
      → outcome s lane moment (Range file offset len) ≡ Ok (s, Data sent)
  range_given_plainly bytes sent gives same = by_asked asked refl gives
    where
      by_asked : (r : Result RangeAsked Refusal) → asked ≡ r → (r >>= λ a. range_with (d.content old.disk) a offset (offset + len)) ≡ Ok bytes → outcome s lane moment (Range file offset len) ≡ Ok (s, Data sent)
      by_asked (Ok a) e is =
          range_is s lane file offset len moment ∙ range_given (d.content old.disk) old s lane file offset len h.shows h.files lt a bytes e is ∙ ap (λ b. Ok (s, Data b)) (sym same)
      by_asked (Err told) e is = cc

-- what fits a range fits a reply
pub data_short : (bytes : List ℕ) (len : ℕ) → length bytes ≤ len → len ≤ 4_194_304 → length bytes < body_limit
data_short bytes len a b = omega (arith, a, b)

-- ---- refused before it is read

module _ {A : Type 0} (asked : Result RangeAsked Refusal) (from to : ℕ) (result : Result A Stop) (stop : Stop) (is : IsErrAnd result (λ x. x ≡ stop)) (none : IfRefused (λ r. asked ≡ Err r) stop) where
  handed_on : (P : Result A Stop → Type 0) → P (Err stop) → P result
  handed_on P p = by_result result is
    where
      by_result : (r : Result A Stop) → IsErrAnd r (λ x. x ≡ stop) → P r
      by_result (Ok x) is = absurd is
      by_result (Err x) is = subst (λ y. P (Err y)) (sym is) p

  pub none_given : (f : A → List ℕ) (m : Files) → Gives f result (asked >>= λ a. range_with m a from to)
  none_given f m = handed_on (λ r. Gives f r (asked >>= λ a. range_with m a from to)) (by_stop stop none)
    where
      by_stop : (stop : Stop) → IfRefused (λ r. asked ≡ Err r) stop → Gives {A = A} f (Err stop) (asked >>= λ a. range_with m a from to)
      by_stop (stops.Refused r) e = ap (λ (q : Result RangeAsked Refusal). q >>= λ a. range_with m a from to) e
      by_stop stops.NoMemory e = tt
      by_stop stops.DiskFailed e = tt

  pub none_whole : (a : RangeAsked) → asked ≡ Ok a → IsUnrefused result
  none_whole a at = handed_on (λ r. IsUnrefused r) (by_stop stop none)
    where
      apart : (r : Refusal) → ◌≡◌ {A = Result RangeAsked Refusal} (Ok a) (Err r) → ⊥
      apart r e = cc

      by_stop : (stop : Stop) → IfRefused (λ r. asked ≡ Err r) stop → IsUnrefused {A = A} (Err stop)
      by_stop (stops.Refused r) e = apart r (sym at ∙ e)
      by_stop stops.NoMemory e = tt
      by_stop stops.DiskFailed e = tt

  pub none_refused : IfErr result (IfRefused (RangeRefuses asked from to))
  none_refused = handed_on (λ r. IfErr r (IfRefused (RangeRefuses asked from to))) (by_stop stop none)
    where
      by_stop : (stop : Stop) → IfRefused (λ r. asked ≡ Err r) stop → IfRefused (RangeRefuses asked from to) stop
      by_stop (stops.Refused r) e = subst (λ q. RangeRefuses q from to r) (sym e) refl
      by_stop stops.NoMemory e = tt
      by_stop stops.DiskFailed e = tt

-- ---- what is handed on

stop_same : {A : Type 0} (a b : Stop) → ◌≡◌ {A = Result A Stop} (Err a) (Err b) → a ≡ b
stop_same a b e = cc

pub unfailed_on : {A B : Type 0} (stop : Stop) (result : Result A Stop) → IsErrAnd result (λ x. x ≡ stop)
    → (◌≡◌ {A = Result B Stop} (Err stop) (Err stops.DiskFailed) → ⊥) → ◌≡◌ {A = Result A Stop} result (Err stops.DiskFailed) → ⊥
unfailed_on stop (Ok x) is never e = absurd is
unfailed_on stop (Err x) is never e = never (ap Err (sym is ∙ stop_same x stops.DiskFailed e))

pub text_on : {A : Type 0} (stop : Stop) (result : Result A Stop) → IsErrAnd result (λ x. x ≡ stop) → StopHasText stop → IfErr result StopHasText
text_on stop (Ok x) is h = tt
text_on stop (Err x) is h = subst (λ y. StopHasText y) (sym is) h

-- what the place is refused by
pub place_none : {A : Type 0} (f : A → List ℕ) (file : List ℕ) (offset len : ℕ) (k : KeptAt) (stop : Stop) → Gives f (Err stop) (range_place file k)
    → IfRefused (λ r. range_asked file offset len k ≡ Err r) stop
place_none f file offset len k (stops.Refused r) gives = asked_unplaced file offset len k r gives
place_none f file offset len k stops.NoMemory gives = tt
place_none f file offset len k stops.DiskFailed gives = tt

-- ---- read

module _ (asked : Result RangeAsked Refusal) (a : RangeAsked) (at : asked ≡ Ok a) (from to : ℕ) where
  pub read_given : {A : Type 0} (f : A → List ℕ) (m : Files) (result : Result A Stop) → Gives f result (range_with m a from to) → Gives f result (asked >>= λ b. range_with m b from to)
  read_given f m result gives = subst (λ q. Gives f result q) (sym (ap (λ (q : Result RangeAsked Refusal). q >>= λ b. range_with m b from to) at)) gives

  pub read_same : (b : RangeAsked) → asked ≡ Ok b → a ≡ b
  read_same b other = same (sym at ∙ other)
    where
      same : ◌≡◌ {A = Result RangeAsked Refusal} (Ok a) (Ok b) → a ≡ b
      same e = cc

  pub read_refused : {A : Type 0} (result : Result A Stop) → IfErr result (IfRefused (RefusesAsked a from to)) → IfErr result (IfRefused (RangeRefuses asked from to))
  read_refused (Ok x) h = tt
  read_refused (Err (stops.Refused r)) h = subst (λ q. RangeRefuses q from to r) (sym at) h
  read_refused (Err stops.NoMemory) h = tt
  read_refused (Err stops.DiskFailed) h = tt

-- it comes by a call of the disk
pub read_uncalled : {A : Type 0} (P : Type 0) (a : RangeAsked) (from to : ℕ) (result : Result A Stop) → IfErr result (IfRefused (RefusesAsked a from to)) → IfErr result (IfRefused (λ r. is_uncalled r ≡ true → P))
read_uncalled P a from to (Ok x) h = tt
read_uncalled P a from to (Err (stops.Refused r)) h = λ uncalled. absurd (true_false (sym uncalled ∙ read_called a from to r h))
read_uncalled P a from to (Err stops.NoMemory) h = tt
read_uncalled P a from to (Err stops.DiskFailed) h = tt

-- the refusals of a plan have a text
pub plan_text : (refusal : Refusal) → PlanRefuses refusal → ReplyHasText (Refused refusal)
plan_text NotAllowed h = not_allowed_has_text
plan_text (TooMany limit) h = too_many_has_text limit h
plan_text (BadRange size) h = bad_range_has_text size h
plan_text _ h = absurd h
