-- A reply that is read is spelled so, and one that is spelled is read again.
use Rattle.std.proofs.Common.{◌≡◌, ℕ, zero, suc, ◌^◌, ◌<◌, ◌≤◌, Bool, List, [], ◌∷◌, ◌++◌, length, leb, Option, Some, None, IfSome, Result, Ok, Err, IfOk, refl, sym, ap, subst, ◌∙◌}
use Rattle.std.proofs.lemmas.Bool.{leb-true, le-leb}
use Rattle.std.specs.Int.{w64}
use Rattle.store_types.specs.declared.refusal.Refusal.{Refusal}
use Rattle.store_types.specs.declared.refusal.Refusal.TheVariants as refusals
use Rattle.store_types.specs.Chain.Reading.{◌>>=◌, only_if}
use Rattle.wire_frames.specs.Frames.{body_limit, AreBytes}
use Rattle.wire_commands.specs.declared.reply.Reply.{Reply}
use Rattle.wire_commands.specs.declared.reply.Reply.TheVariants.{Done, Base, Part, Data, Number, Listing, Files, Keys, Marks, Verified, Collected, Refused}
use Rattle.wire_commands.specs.declared.rows.FaultRow.{FaultRow}
use Rattle.wire_commands.specs.Fields.{Read, u64, text, rows, few_rows, byte_at, number_at, text_at, rows_at, few_rows_at, whole}
use Rattle.wire_commands.specs.RefusalText.{refusal_text}
use Rattle.wire_commands.specs.RefusalReading.{refusal_from}
use Rattle.wire_commands.specs.ReplyText.{Form, empty, base, part, rest, number, listing, files, keys, marks, verified, collected, reply_form, HasForm, list_row_text, file_row_text, prune_row_text, fault_row_text, reply_text}
use Rattle.wire_commands.specs.ReplyReading.{list_row_at, file_row_at, prune_row_at, fault_row_at, made, part_in, verified_in, collected_in, fields_in, accepted, reply_from, reply_of}
use Rattle.wire_commands.specs.HasText.{FitsRefusal, FitsReply, ReplyHasText, RepliesAreReadAgain, RepliesHaveOneText}
use Rattle.wire_commands.proofs.FieldLaws.{IsField, both, both_field, byte_field, u64_field, text_field}
use Rattle.wire_commands.proofs.RefusalFields.{only_if_some}
use Rattle.wire_commands.proofs.BodyLaws.{Spells, value_spells, none_spells, nothing_spells, one_spells, one_again, two_first, two_spells, two_again, rest_spells, rest_again}
use Rattle.wire_commands.proofs.RowLaws.{rows_field, few_rows_field}
use Rattle.wire_commands.proofs.ListFields.{list_row_field, file_row_field, prune_row_field, fault_row_field}
use Rattle.wire_commands.proofs.RefusalLaws.{refusal_in, refusal_spells, refusal_again}

made_is : {A : Type 0} (make : A → Reply) (o : Option A) → made make o ≡ (o >>= (λ x. Some (make x)))
unfolding made
made_is make None = refl
made_is make (Some x) = refl

-- the reply of a body of any length
abbrev reply_in : Option Form → List ℕ → Option Reply
reply_in form body = byte_at body >>= (λ first. reply_from form first.0 first.1)

-- ---- what is read

abbrev IsReply : Option Form → Reply → Type 0
IsReply form r = FitsReply r × HasForm form r

-- the counts of a VERIFY, as one field, and its faults
abbrev counts_at : List ℕ → Read ((ℕ × ℕ) × ℕ)
counts_at = both (both byte_at (number_at w64)) (number_at w64)

counts_field : IsField counts_at (λ p. ((p.0).0 ∷ [] ++ u64 (p.0).1) ++ u64 p.1) (λ p. (((p.0).0 < 256) × ((p.0).1 < 2 ^ 64)) × (p.1 < 2 ^ 64))
counts_field = both_field (both_field byte_field u64_field) u64_field

abbrev make_verified : (ℕ × ℕ) × ℕ → List FaultRow → Reply
make_verified p faults = Verified (p.0).0 (p.0).1 p.1 faults

verified_is : (bytes : List ℕ) → verified_in bytes ≡ (counts_at bytes >>= (λ p. whole (few_rows_at fault_row_at p.1) >>= (λ faults. Some (make_verified p.0 faults))))
unfolding verified_in
verified_is bytes =
    let last : (ℕ × ℕ) × ℕ → List ℕ → Option Reply = λ p left. whole (few_rows_at fault_row_at left) >>= (λ faults. Some (make_verified p faults)) in
    two_first byte_at (number_at w64) (λ count entries left. number_at w64 left >>= (λ total. last ((count, entries), total.0) total.1)) bytes
    ∙ two_first (both byte_at (number_at w64)) (number_at w64) (λ p total left. last (p, total) left) bytes

verified_spells : (bytes : List ℕ) → AreBytes bytes → Spells reply_text (IsReply (Some verified)) bytes 0 (verified_in bytes)
unfolding reply_text
verified_spells bytes fits =
    subst (Spells reply_text (IsReply (Some verified)) bytes 0) (sym (verified_is bytes))
    (two_spells reply_text (IsReply (Some verified)) counts_field (few_rows_field fault_row_field) make_verified bytes 0 fits (λ p. refl)
    (λ p h. (((h.0).0.0, (h.0).0.1, (h.0).1, (h.1).0, (h.1).1), refl)))

verified_again : (count entries total : ℕ) (faults : List FaultRow) → FitsReply (Verified count entries total faults)
    → verified_in (count ∷ u64 entries ++ u64 total ++ few_rows fault_row_text faults) ≡ Some (Verified count entries total faults)
verified_again count entries total faults fits =
    verified_is (count ∷ u64 entries ++ u64 total ++ few_rows fault_row_text faults)
    ∙ two_again counts_field (few_rows_field fault_row_field) make_verified ((count, entries), total) faults ((fits.0, fits.1), fits.2) (fits.3, fits.4)

-- the five numbers of a GC, as one field of the first four and one
abbrev n64 : List ℕ → Read ℕ
n64 = number_at w64

abbrev four_at : List ℕ → Read (((ℕ × ℕ) × ℕ) × ℕ)
four_at = both (both (both n64 n64) n64) n64

four_field : IsField four_at (λ p. ((u64 ((p.0).0).0 ++ u64 ((p.0).0).1) ++ u64 (p.0).1) ++ u64 p.1)
    (λ p. (((((p.0).0).0 < 2 ^ 64) × (((p.0).0).1 < 2 ^ 64)) × ((p.0).1 < 2 ^ 64)) × (p.1 < 2 ^ 64))
four_field = both_field (both_field (both_field u64_field u64_field) u64_field) u64_field

abbrev make_collected : ((ℕ × ℕ) × ℕ) × ℕ → ℕ → Reply
make_collected p removed = Collected ((p.0).0).0 ((p.0).0).1 (p.0).1 p.1 removed

collected_is : (bytes : List ℕ) → collected_in bytes ≡ (four_at bytes >>= (λ p. whole (n64 p.1) >>= (λ removed. Some (make_collected p.0 removed))))
unfolding collected_in
collected_is bytes =
    let last : ((ℕ × ℕ) × ℕ) × ℕ → List ℕ → Option Reply = λ p left. whole (n64 left) >>= (λ removed. Some (make_collected p removed)) in
    let fourth : (ℕ × ℕ) × ℕ → List ℕ → Option Reply = λ p left. n64 left >>= (λ pending. last (p, pending.0) pending.1) in
    two_first n64 n64 (λ start cutoff left. n64 left >>= (λ used. fourth ((start, cutoff), used.0) used.1)) bytes
    ∙ two_first (both n64 n64) n64 (λ p used left. fourth (p, used) left) bytes
    ∙ two_first (both (both n64 n64) n64) n64 (λ p pending left. last (p, pending) left) bytes

collected_spells : (bytes : List ℕ) → AreBytes bytes → Spells reply_text (IsReply (Some collected)) bytes 0 (collected_in bytes)
unfolding reply_text
collected_spells bytes fits =
    subst (Spells reply_text (IsReply (Some collected)) bytes 0) (sym (collected_is bytes))
    (two_spells reply_text (IsReply (Some collected)) four_field u64_field make_collected bytes 0 fits (λ p. refl)
    (λ p h. (((h.0).0.0.0, (h.0).0.0.1, (h.0).0.1, (h.0).1, h.1), refl)))

collected_again : (start cutoff used pending removed : ℕ) → FitsReply (Collected start cutoff used pending removed)
    → collected_in (u64 start ++ u64 cutoff ++ u64 used ++ u64 pending ++ u64 removed) ≡ Some (Collected start cutoff used pending removed)
collected_again start cutoff used pending removed fits =
    collected_is (u64 start ++ u64 cutoff ++ u64 used ++ u64 pending ++ u64 removed)
    ∙ two_again four_field u64_field make_collected (((start, cutoff), used), pending) removed (((fits.0, fits.1), fits.2), fits.3) fits.4

accepted_spells : (form : Option Form) (bytes : List ℕ) → AreBytes bytes → Spells reply_text (IsReply form) bytes 0 (accepted form bytes)
unfolding fields_in part_in reply_text
accepted_spells None bytes fits = none_spells reply_text (IsReply None) bytes 0
accepted_spells (Some empty) bytes fits = nothing_spells reply_text (IsReply (Some empty)) bytes 0 Done (tt, refl) refl
accepted_spells (Some base) bytes fits =
    subst (Spells reply_text (IsReply (Some base)) bytes 0) (sym (made_is Base (whole (text_at bytes))))
    (one_spells reply_text (IsReply (Some base)) text_field Base bytes 0 fits (λ t. refl) (λ t h. (h, refl)))
accepted_spells (Some part) bytes fits = rest_spells reply_text (IsReply (Some part)) u64_field Part bytes 0 fits (λ n rest. refl) (λ n rest h. (h, refl))
accepted_spells (Some rest) bytes fits = value_spells reply_text (IsReply (Some rest)) bytes 0 (Data bytes) (tt, refl) refl
accepted_spells (Some number) bytes fits =
    subst (Spells reply_text (IsReply (Some number)) bytes 0) (sym (made_is Number (whole (byte_at bytes))))
    (one_spells reply_text (IsReply (Some number)) byte_field Number bytes 0 fits (λ n. refl) (λ n h. (h, refl)))
accepted_spells (Some listing) bytes fits =
    subst (Spells reply_text (IsReply (Some listing)) bytes 0) (sym (made_is Listing (whole (rows_at list_row_at bytes))))
    (one_spells reply_text (IsReply (Some listing)) (rows_field list_row_field) Listing bytes 0 fits (λ xs. refl) (λ xs h. (h, refl)))
accepted_spells (Some files) bytes fits =
    subst (Spells reply_text (IsReply (Some files)) bytes 0) (sym (made_is Files (whole (few_rows_at file_row_at bytes))))
    (one_spells reply_text (IsReply (Some files)) (few_rows_field file_row_field) Files bytes 0 fits (λ xs. refl) (λ xs h. (h, refl)))
accepted_spells (Some keys) bytes fits =
    subst (Spells reply_text (IsReply (Some keys)) bytes 0) (sym (made_is Keys (whole (rows_at text_at bytes))))
    (one_spells reply_text (IsReply (Some keys)) (rows_field text_field) Keys bytes 0 fits (λ xs. refl) (λ xs h. (h, refl)))
accepted_spells (Some marks) bytes fits =
    subst (Spells reply_text (IsReply (Some marks)) bytes 0) (sym (made_is Marks (whole (rows_at prune_row_at bytes))))
    (one_spells reply_text (IsReply (Some marks)) (rows_field prune_row_field) Marks bytes 0 fits (λ xs. refl) (λ xs h. (h, refl)))
accepted_spells (Some verified) bytes fits = verified_spells bytes fits
accepted_spells (Some collected) bytes fits = collected_spells bytes fits

refused_spells : (form : Option Form) (n : ℕ) (bytes : List ℕ) (o : Option Refusal) → Spells refusal_text FitsRefusal bytes n o → Spells reply_text (IsReply form) bytes n (made Refused o)
unfolding made reply_text
refused_spells form n bytes None spells = none_spells reply_text (IsReply form) bytes n
refused_spells form n bytes (Some r) spells =
    let is = spells r refl in
    value_spells reply_text (IsReply form) bytes n (Refused r) (is.0, tt) is.1

reply_spells : (form : Option Form) (n : ℕ) (bytes : List ℕ) → AreBytes bytes → Spells reply_text (IsReply form) bytes n (reply_from form n bytes)
unfolding reply_from
reply_spells form zero bytes fits = accepted_spells form bytes fits
reply_spells form (suc n) bytes fits = refused_spells form (suc n) bytes (refusal_from (suc n) bytes) (refusal_spells (suc n) bytes fits)

body_spells : (form : Option Form) (body : List ℕ) (r : Reply) → AreBytes body → reply_in form body ≡ Some r → IsReply form r × (body ≡ reply_text r)
body_spells form [] r fits e = absurd cc
body_spells form (n ∷ bytes) r fits e = reply_spells form n bytes (λ i. fits (suc i)) r e

pub replies_one_text : RepliesHaveOneText
unfolding reply_of
replies_one_text code body r bytes e =
    let held = only_if_some (leb (length body) body_limit) (reply_in (reply_form code) body) r e in
    let is = body_spells (reply_form code) body r bytes held.1 in
    let short : length body ≤ body_limit = leb-true (length body) body_limit held.0 in
    ((is.0.0, subst (λ (t : List ℕ). length t ≤ body_limit) is.1 short), is.0.1, is.1)

-- ---- what is spelled

within_limit : (code : ℕ) (body : List ℕ) → length body ≤ body_limit → reply_of code body ≡ reply_in (reply_form code) body
unfolding reply_of
within_limit code body h = ap (λ (b : Bool). only_if b >>= (λ u. reply_in (reply_form code) body)) (le-leb (length body) body_limit h)

numbered : (form : Option Form) (r : Refusal) → reply_in form (refusal_text r) ≡ made Refused (refusal_in (refusal_text r))
unfolding reply_from refusal_text
numbered form (refusals.BadFrame offset) = refl
numbered form (refusals.TooLong len) = refl
numbered form (refusals.WrongState state) = refl
numbered form refusals.BadName = refl
numbered form (refusals.GroupBusy lane) = refl
numbered form (refusals.SnapshotBusy lane) = refl
numbered form (refusals.NotNewer latest) = refl
numbered form refusals.NoSnapshot = refl
numbered form refusals.NoFile = refl
numbered form refusals.Exists = refl
numbered form (refusals.BadBlob fault) = refl
numbered form (refusals.WrongDigest digest) = refl
numbered form (refusals.WrongSize place size) = refl
numbered form (refusals.UnknownChunk place) = refl
numbered form (refusals.BadOffset place expected) = refl
numbered form (refusals.BadClose fault) = refl
numbered form (refusals.OpenIndexes count) = refl
numbered form (refusals.BadManifest cause) = refl
numbered form (refusals.ManifestMismatch file field) = refl
numbered form refusals.NotAllowed = refl
numbered form (refusals.TooMany limit) = refl
numbered form (refusals.BadRange size) = refl
numbered form (refusals.Damaged digest fault) = refl
numbered form (refusals.Unreadable name) = refl
numbered form (refusals.CollectorBusy lane) = refl
numbered form refusals.DiskFault = refl
numbered form (refusals.Halted place) = refl
numbered form refusals.NoMemory = refl
numbered form refusals.NoRemote = refl
numbered form refusals.RemoteFault = refl

-- in the form that it has
form_again : {form : Option Form} (own : Option Form) (r : Reply) → form ≡ own → reply_in own (reply_text r) ≡ Some r → reply_in form (reply_text r) ≡ Some r
form_again own r is e = subst (λ (f : Option Form). reply_in f (reply_text r) ≡ Some r) (sym is) e

reply_again : (form : Option Form) (r : Reply) → FitsReply r → HasForm form r → reply_in form (reply_text r) ≡ Some r
unfolding reply_text reply_from fields_in part_in made
reply_again form (Refused r) fits has = numbered form r ∙ ap (made Refused) (refusal_again r fits)
reply_again form Done fits has = form_again (Some empty) Done has refl
reply_again form (Base snapshot) fits has =
    form_again (Some base) (Base snapshot) has (made_is Base (whole (text_at (text snapshot))) ∙ one_again text_field Base snapshot fits)
reply_again form (Part total bytes) fits has = form_again (Some part) (Part total bytes) has (rest_again u64_field Part total bytes fits)
reply_again form (Data bytes) fits has = form_again (Some rest) (Data bytes) has refl
reply_again form (Number n) fits has =
    form_again (Some number) (Number n) has (made_is Number (whole (byte_at (n ∷ []))) ∙ one_again byte_field Number n fits)
reply_again form (Listing xs) fits has =
    form_again (Some listing) (Listing xs) has (made_is Listing (whole (rows_at list_row_at (rows list_row_text xs))) ∙ one_again (rows_field list_row_field) Listing xs fits)
reply_again form (Files xs) fits has =
    form_again (Some files) (Files xs) has (made_is Files (whole (few_rows_at file_row_at (few_rows file_row_text xs))) ∙ one_again (few_rows_field file_row_field) Files xs fits)
reply_again form (Keys xs) fits has =
    form_again (Some keys) (Keys xs) has (made_is Keys (whole (rows_at text_at (rows text xs))) ∙ one_again (rows_field text_field) Keys xs fits)
reply_again form (Marks xs) fits has =
    form_again (Some marks) (Marks xs) has (made_is Marks (whole (rows_at prune_row_at (rows prune_row_text xs))) ∙ one_again (rows_field prune_row_field) Marks xs fits)
reply_again form (Verified count entries total faults) fits has =
    form_again (Some verified) (Verified count entries total faults) has (verified_again count entries total faults fits)
reply_again form (Collected start cutoff used pending removed) fits has =
    form_again (Some collected) (Collected start cutoff used pending removed) has (collected_again start cutoff used pending removed fits)

pub replies_again : RepliesAreReadAgain
replies_again code r h has = within_limit code (reply_text r) h.1 ∙ reply_again (reply_form code) r h.0 has

-- of a read
abbrev IsSpelledBy : List ℕ → Reply → Type 0
IsSpelledBy body r = ReplyHasText r × (body ≡ reply_text r)

pub read_spelled : {E : Type 0} (code : ℕ) (body : List ℕ) (r : Result (Option Reply) E) → AreBytes body → IfOk r (λ o. o ≡ reply_of code body) → IfOk r (λ o. IfSome o (IsSpelledBy body))
read_spelled code body (Ok (Some reply)) bytes is =
    let both = replies_one_text code body reply bytes (sym is) in
    (both.0, both.2)
read_spelled code body (Ok None) bytes is = tt
read_spelled code body (Err e) bytes is = tt
