-- Flags, marks, the counts of a prune, and the rows of replies.
use Rattle.std.proofs.Common.{◌≡◌, ℕ, suc, ◌^◌, ◌<◌, Bool, true, false, List, [], ◌∷◌, ◌++◌, Option, Some, None, refl, sym, ap, ◌∙◌, append_assoc}
use Rattle.std.specs.Prelude.{⊤}
use Rattle.std.specs.Int.{w16, w64}
use Rattle.store_types.specs.declared.names.Digest32.{Digest32}
use Rattle.store_types.specs.declared.names.Keep.{Keep}
use Rattle.store_types.specs.Chain.Reading.{◌>>=◌, only_if}
use Rattle.wire_frames.specs.Frames.{AreBytes}
use Rattle.wire_commands.specs.declared.rows.ListRow.{ListRow}
use Rattle.wire_commands.specs.declared.rows.FileRow.{FileRow}
use Rattle.wire_commands.specs.declared.rows.PruneMark.{PruneMark}
use Rattle.wire_commands.specs.declared.rows.PruneMark.TheVariants.{Removed, Kept, Held, Gone}
use Rattle.wire_commands.specs.declared.rows.PruneRow.{PruneRow}
use Rattle.wire_commands.specs.declared.rows.FileFault.{FileFault}
use Rattle.wire_commands.specs.declared.rows.FileFault.TheVariants.{Differs, Damaged, Unreadable}
use Rattle.wire_commands.specs.declared.rows.FaultRow.{FaultRow}
use Rattle.wire_commands.specs.Fields.{Read, u16, flag, byte_at, number_at, digest_at, text_at, flag_at}
use Rattle.wire_commands.specs.CommandText.{keep_text, keep_at}
use Rattle.wire_commands.specs.ReplyText.{list_row_text, files_fit, file_row_text, mark_number, prune_row_text, file_fault_text, fault_row_text}
use Rattle.wire_commands.specs.ReplyReading.{list_row_at, file_row_at, mark_at, prune_row_at, file_fault_at, fault_row_at}
use Rattle.wire_commands.specs.RefusalReading.{zeros_at, made}
use Rattle.wire_commands.specs.HasText.{FitsKeep, FitsListRow, FitsFileRow, FitsPruneRow, FitsFileFault, FitsFaultRow}
use Rattle.wire_commands.proofs.FieldLaws.{found, bind_some, IsField, Takes, taken_is, byte_field, u16_field, u64_field, digest_field, text_field, both, both_field}
use Rattle.wire_commands.proofs.RefusalFields.{either_at, none_takes, value_takes, made_takes, zeros_field, made_some, made_again, both_made, only_if_some}
use Rattle.wire_commands.proofs.BodyLaws.{two_first}

-- ---- a field that is made of others

pub made_field : {A B : Type 0} {read : List ℕ → Read A} {part : A → List ℕ} {PartFits : A → Type 0} (spelled : B → List ℕ) (Fits : B → Type 0) (read_made : List ℕ → Read B)
    → IsField read part PartFits → (make : A → B) (fields : B → A)
    → ((bytes : List ℕ) → read_made bytes ≡ made make (read bytes)) → ((p : A) → spelled (make p) ≡ part p) → ((p : A) → PartFits p → Fits (make p))
    → ((x : B) → Fits x → PartFits (fields x)) → ((x : B) → make (fields x) ≡ x) → IsField read_made spelled Fits
made_field {A} {B} {read} {part} spelled Fits read_made field make fields is same fit parts_fit back = record { takes = taken; again = there }
  where
    taken : (bytes : List ℕ) → AreBytes bytes → (x : B) (rest : List ℕ) → read_made bytes ≡ Some (x, rest) → (bytes ≡ spelled x ++ rest) × AreBytes rest × Fits x
    taken bytes bytes_fit x rest e =
        let r = made_some make (read bytes) x rest (sym (is bytes) ∙ e) in
        let here = field.takes bytes bytes_fit r.0.0 r.0.1 r.1 in
        taken_is spelled Fits bytes (make r.0.0) x r.0.1 rest r.2
        (here.0 ∙ ap (λ (t : List ℕ). t ++ r.0.1) (sym (same r.0.0)), here.1, fit r.0.0 here.2)

    there : (x : B) (rest : List ℕ) → Fits x → read_made (spelled x ++ rest) ≡ Some (x, rest)
    there x rest fits =
        let spelling : spelled x ≡ part (fields x) = ap spelled (sym (back x)) ∙ same (fields x) in
        is (spelled x ++ rest) ∙ ap (λ (t : List ℕ). made make (read (t ++ rest))) spelling
        ∙ made_again field make (fields x) rest (parts_fit x fits) ∙ ap (λ (y : B). found y rest) (back x)

-- ---- a field whose value passes a test

abbrev pub tested : {A : Type 0} → (A → Bool) → (List ℕ → Read A) → List ℕ → Read A
tested test read bytes = do
  x ← read bytes
  _ ← only_if (test x.0)
  Some (x.0, x.1)

pub tested_field : {A : Type 0} {read : List ℕ → Read A} {spelled : A → List ℕ} {Fits : A → Type 0} (test : A → Bool) → IsField read spelled Fits
    → IsField (tested test read) spelled (λ x. Fits x × (test x ≡ true))
tested_field {A} {read} {spelled} {Fits} test field = record { takes = taken; again = there }
  where
    Passes : A → Type 0
    Passes x = Fits x × (test x ≡ true)

    taken : (bytes : List ℕ) → AreBytes bytes → Takes spelled (λ x. Fits x × (test x ≡ true)) bytes (tested test read bytes)
    taken bytes bytes_fit x rest e =
        let r = bind_some (read bytes) (λ r. only_if (test r.0) >>= (λ u. found r.0 r.1)) (x, rest) e in
        let passed = only_if_some (test r.0.0) (found r.0.0 r.0.1) (x, rest) r.2 in
        let here = field.takes bytes bytes_fit r.0.0 r.0.1 r.1 in
        taken_is spelled Passes bytes r.0.0 x r.0.1 rest passed.1 (here.0, here.1, (here.2, passed.0))

    there : (x : A) (rest : List ℕ) → Fits x × (test x ≡ true) → tested test read (spelled x ++ rest) ≡ Some (x, rest)
    there x rest fits = rw (field.again x rest fits.0, fits.1) refl

tested_made : {A B : Type 0} (test : A → Bool) (make : A → B) (r : Read A)
    → (r >>= (λ x. only_if (test x.0) >>= (λ u. found (make x.0) x.1))) ≡ made make (r >>= (λ x. only_if (test x.0) >>= (λ u. found x.0 x.1)))
tested_made test make None = refl
tested_made {A} {B} test make (Some x) = inner (test x.0)
  where
    inner : (passed : Bool) → (only_if passed >>= (λ u. found (make x.0) x.1)) ≡ made make (only_if passed >>= (λ u. found x.0 x.1))
    inner true = refl
    inner false = refl

-- ---- flags

abbrev AnyFlag : Bool → Type 0
AnyFlag b = ⊤

flag_takes : (bytes : List ℕ) → AreBytes bytes → Takes flag AnyFlag bytes (flag_at bytes)
flag_takes [] fits = none_takes flag AnyFlag []
flag_takes (n ∷ bytes) fits =
    let rest : AreBytes bytes = λ i. fits (suc i) in
    let P : ℕ → Option Bool → Type 0 = λ n o. Takes flag AnyFlag (n ∷ bytes) (o >>= (λ set. Some (set, bytes))) in
    either_at P n 0 (Some false) _ (value_takes flag AnyFlag false bytes rest tt)
    (either_at P n 1 (Some true) None (value_takes flag AnyFlag true bytes rest tt)
    (none_takes flag AnyFlag (n ∷ bytes)))

flag_again : (b : Bool) (rest : List ℕ) → AnyFlag b → flag_at (flag b ++ rest) ≡ Some (b, rest)
flag_again false rest fits = refl
flag_again true rest fits = refl

pub flag_field : IsField flag_at flag (λ b. ⊤)
flag_field = record { takes = flag_takes; again = flag_again }

-- ---- marks

abbrev mark_text : PruneMark → List ℕ
mark_text m = mark_number m ∷ []

abbrev AnyMark : PruneMark → Type 0
AnyMark m = ⊤

mark_takes : (bytes : List ℕ) → AreBytes bytes → Takes mark_text AnyMark bytes (mark_at bytes)
mark_takes [] fits = none_takes mark_text AnyMark []
mark_takes (n ∷ bytes) fits =
    let rest : AreBytes bytes = λ i. fits (suc i) in
    let P : ℕ → Option PruneMark → Type 0 = λ n o. Takes mark_text AnyMark (n ∷ bytes) (o >>= (λ mark. Some (mark, bytes))) in
    either_at P n 0 (Some Removed) _ (value_takes mark_text AnyMark Removed bytes rest tt)
    (either_at P n 1 (Some Kept) _ (value_takes mark_text AnyMark Kept bytes rest tt)
    (either_at P n 2 (Some Held) _ (value_takes mark_text AnyMark Held bytes rest tt)
    (either_at P n 3 (Some Gone) None (value_takes mark_text AnyMark Gone bytes rest tt)
    (none_takes mark_text AnyMark (n ∷ bytes)))))

mark_again : (m : PruneMark) (rest : List ℕ) → AnyMark m → mark_at (mark_text m ++ rest) ≡ Some (m, rest)
mark_again Removed rest fits = refl
mark_again Kept rest fits = refl
mark_again Held rest fits = refl
mark_again Gone rest fits = refl

pub mark_field : IsField mark_at (λ m. mark_number m ∷ []) (λ m. ⊤)
mark_field = record { takes = mark_takes; again = mark_again }

-- ---- the counts of a prune

abbrev n16 : List ℕ → Read ℕ
n16 = number_at w16

abbrev make_keep : ℕ → ℕ → ℕ → ℕ → ℕ → ℕ → Keep
make_keep last hourly daily weekly monthly yearly = record { last = last; hourly = hourly; daily = daily; weekly = weekly; monthly = monthly; yearly = yearly }

abbrev Counts : Type 0
Counts = ((((ℕ × ℕ) × ℕ) × ℕ) × ℕ) × ℕ

abbrev keep_made : Counts → Keep
keep_made p = make_keep (((((p.0).0).0).0).0) (((((p.0).0).0).0).1) ((((p.0).0).0).1) (((p.0).0).1) ((p.0).1) p.1

abbrev counts_of : Keep → Counts
counts_of k = (((((k.last, k.hourly), k.daily), k.weekly), k.monthly), k.yearly)

abbrev five_at : List ℕ → Read ((((ℕ × ℕ) × ℕ) × ℕ) × ℕ)
five_at = both (both (both (both n16 n16) n16) n16) n16

abbrev counts_at : List ℕ → Read Counts
counts_at = both five_at n16

abbrev five_text : (((ℕ × ℕ) × ℕ) × ℕ) × ℕ → List ℕ
five_text p = (((u16 ((((p.0).0).0).0) ++ u16 ((((p.0).0).0).1)) ++ u16 (((p.0).0).1)) ++ u16 ((p.0).1)) ++ u16 p.1

abbrev FiveFit : (((ℕ × ℕ) × ℕ) × ℕ) × ℕ → Type 0
FiveFit p = (((((((p.0).0).0).0 < 2 ^ 16) × ((((p.0).0).0).1 < 2 ^ 16)) × (((p.0).0).1 < 2 ^ 16)) × ((p.0).1 < 2 ^ 16)) × (p.1 < 2 ^ 16)

five_field : IsField five_at five_text FiveFit
five_field = both_field (both_field (both_field (both_field u16_field u16_field) u16_field) u16_field) u16_field

counts_field : IsField counts_at (λ p. five_text p.0 ++ u16 p.1) (λ p. FiveFit p.0 × (p.1 < 2 ^ 16))
counts_field = both_field five_field u16_field

keep_is : (bytes : List ℕ) → keep_at bytes ≡ made keep_made (counts_at bytes)
keep_is bytes =
    let last : ((((ℕ × ℕ) × ℕ) × ℕ) × ℕ) → List ℕ → Read Keep = λ p rest. n16 rest >>= (λ yearly. found (keep_made (p, yearly.0)) yearly.1) in
    let monthly : (((ℕ × ℕ) × ℕ) × ℕ) → List ℕ → Read Keep = λ p rest. n16 rest >>= (λ m. last (p, m.0) m.1) in
    let weekly : ((ℕ × ℕ) × ℕ) → List ℕ → Read Keep = λ p rest. n16 rest >>= (λ w. monthly (p, w.0) w.1) in
    let daily : (ℕ × ℕ) → List ℕ → Read Keep = λ p rest. n16 rest >>= (λ d. weekly (p, d.0) d.1) in
    two_first n16 n16 (λ a b rest. daily (a, b) rest) bytes
    ∙ two_first (both n16 n16) n16 (λ p d rest. weekly (p, d) rest) bytes
    ∙ two_first (both (both n16 n16) n16) n16 (λ p w rest. monthly (p, w) rest) bytes
    ∙ two_first (both (both (both n16 n16) n16) n16) n16 (λ p m rest. last (p, m) rest) bytes
    ∙ both_made (five_at bytes) n16 (λ p yearly. keep_made (p, yearly))

pub keep_field : IsField keep_at keep_text FitsKeep
keep_field = made_field keep_text FitsKeep keep_at counts_field keep_made counts_of keep_is (λ p. refl)
    (λ p h. ((h.0).0.0.0.0, (h.0).0.0.0.1, (h.0).0.0.1, (h.0).0.1, (h.0).1, h.1))
    (λ k h. (((((h.0, h.1), h.2), h.3), h.4), h.5)) (λ k. refl)

-- ---- rows

abbrev make_list_row : List ℕ → Bool → ℕ → ListRow
make_list_row snapshot damaged files = record { snapshot = snapshot; damaged = damaged; files = files }

abbrev list_row_of : (List ℕ × Bool) × ℕ → ListRow
list_row_of p = make_list_row (p.0).0 (p.0).1 p.1

abbrev row_files_fit : (List ℕ × Bool) × ℕ → Bool
row_files_fit p = files_fit (p.0).1 p.1

list_row_is : (bytes : List ℕ) → list_row_at bytes ≡ made list_row_of (tested row_files_fit (both (both text_at flag_at) byte_at) bytes)
list_row_is bytes =
    let fitting : List ℕ → Bool → ℕ → List ℕ → Read ListRow = λ s d n rest. only_if (files_fit d n) >>= (λ u. found (make_list_row s d n) rest) in
    two_first text_at flag_at (λ s d rest. byte_at rest >>= (λ n. fitting s d n.0 n.1)) bytes
    ∙ two_first (both text_at flag_at) byte_at (λ p n rest. fitting p.0 p.1 n rest) bytes
    ∙ tested_made row_files_fit list_row_of (both (both text_at flag_at) byte_at bytes)

pub list_row_field : IsField list_row_at list_row_text FitsListRow
list_row_field = made_field list_row_text FitsListRow list_row_at (tested_field row_files_fit (both_field (both_field text_field flag_field) byte_field))
    list_row_of (λ (r : ListRow). ((r.snapshot, r.damaged), r.files)) list_row_is (λ p. refl)
    (λ p h. (((h.0).0).0, (h.0).1, h.1)) (λ r h. (((h.0, tt), h.1), h.2)) (λ r. refl)

abbrev make_file_row : List ℕ → ℕ → Digest32 → FileRow
make_file_row file size csum = record { file = file; size = size; csum = csum }

file_row_is : (bytes : List ℕ) → file_row_at bytes ≡ made (λ (p : (List ℕ × ℕ) × Digest32). make_file_row (p.0).0 (p.0).1 p.1) (both (both text_at (number_at w64)) digest_at bytes)
file_row_is bytes =
    two_first text_at (number_at w64) (λ file size rest. digest_at rest >>= (λ csum. found (make_file_row file size csum.0) csum.1)) bytes
    ∙ both_made (both text_at (number_at w64) bytes) digest_at (λ p csum. make_file_row p.0 p.1 csum)

pub file_row_field : IsField file_row_at file_row_text FitsFileRow
file_row_field = made_field file_row_text FitsFileRow file_row_at (both_field (both_field text_field u64_field) digest_field)
    (λ (p : (List ℕ × ℕ) × Digest32). make_file_row (p.0).0 (p.0).1 p.1) (λ (r : FileRow). ((r.file, r.size), r.csum)) file_row_is (λ p. refl)
    (λ p h. ((h.0).0, (h.0).1, h.1)) (λ r h. ((h.0, h.1), h.2)) (λ r. refl)

abbrev make_prune_row : List ℕ → PruneMark → PruneRow
make_prune_row snapshot mark = record { snapshot = snapshot; mark = mark }

prune_row_is : (bytes : List ℕ) → prune_row_at bytes ≡ made (λ (p : List ℕ × PruneMark). make_prune_row p.0 p.1) (both text_at mark_at bytes)
prune_row_is bytes = both_made (text_at bytes) mark_at make_prune_row

pub prune_row_field : IsField prune_row_at prune_row_text FitsPruneRow
prune_row_field = made_field prune_row_text FitsPruneRow prune_row_at (both_field text_field mark_field)
    (λ (p : List ℕ × PruneMark). make_prune_row p.0 p.1) (λ (r : PruneRow). (r.snapshot, r.mark)) prune_row_is (λ p. refl)
    (λ p h. h.0) (λ r h. (h, tt)) (λ r. refl)

-- ---- faults of files

file_fault_takes : (bytes : List ℕ) → AreBytes bytes → Takes file_fault_text FitsFileFault bytes (file_fault_at bytes)
file_fault_takes [] fits = none_takes file_fault_text FitsFileFault []
file_fault_takes (n ∷ bytes) fits =
    let rest : AreBytes bytes = λ i. fits (suc i) in
    let P : ℕ → Read FileFault → Type 0 = λ n o. Takes file_fault_text FitsFileFault (n ∷ bytes) o in
    either_at P n 19 (made (λ z. Differs) (zeros_at 32 bytes)) _ (made_takes file_fault_text FitsFileFault (zeros_field 32) (λ z. Differs) 19 bytes rest (λ z. refl) (λ z h. h))
    (either_at P n 23 (made Damaged (digest_at bytes)) _ (made_takes file_fault_text FitsFileFault digest_field Damaged 23 bytes rest (λ x. refl) (λ x h. h))
    (either_at P n 24 (made (λ z. Unreadable) (zeros_at 32 bytes)) None (made_takes file_fault_text FitsFileFault (zeros_field 32) (λ z. Unreadable) 24 bytes rest (λ z. refl) (λ z h. h))
    (none_takes file_fault_text FitsFileFault (n ∷ bytes))))

file_fault_again : (f : FileFault) (rest : List ℕ) → FitsFileFault f → file_fault_at (file_fault_text f ++ rest) ≡ Some (f, rest)
file_fault_again Differs rest fits = made_again (zeros_field 32) (λ z. Differs) tt rest tt
file_fault_again (Damaged d) rest fits = made_again digest_field Damaged d rest fits
file_fault_again Unreadable rest fits = made_again (zeros_field 32) (λ z. Unreadable) tt rest tt

pub file_fault_field : IsField file_fault_at file_fault_text FitsFileFault
file_fault_field = record { takes = file_fault_takes; again = file_fault_again }

abbrev make_fault_row : List ℕ → FileFault → FaultRow
make_fault_row file fault = record { file = file; fault = fault }

fault_row_is : (bytes : List ℕ) → fault_row_at bytes ≡ made (λ (p : List ℕ × FileFault). make_fault_row p.0 p.1) (both text_at file_fault_at bytes)
fault_row_is bytes = both_made (text_at bytes) file_fault_at make_fault_row

pub fault_row_field : IsField fault_row_at fault_row_text FitsFaultRow
fault_row_field = made_field fault_row_text FitsFaultRow fault_row_at (both_field text_field file_fault_field)
    (λ (p : List ℕ × FileFault). make_fault_row p.0 p.1) (λ (r : FaultRow). (r.file, r.fault)) fault_row_is (λ p. refl)
    (λ p h. h) (λ r h. h) (λ r. refl)

-- ---- the counts of a prune, put one after another

joined : (h a b c d e f : List ℕ) → (((((h ++ a) ++ b) ++ c) ++ d) ++ e) ++ f ≡ h ++ (((((a ++ b) ++ c) ++ d) ++ e) ++ f)
joined h a b c d e f = simp append_assoc refl

pub keep_joined : (k : Keep) (h0 h1 h2 h3 h4 h5 h6 : List ℕ) → h1 ≡ h0 ++ u16 k.last → h2 ≡ h1 ++ u16 k.hourly → h3 ≡ h2 ++ u16 k.daily
    → h4 ≡ h3 ++ u16 k.weekly → h5 ≡ h4 ++ u16 k.monthly → h6 ≡ h5 ++ u16 k.yearly → h6 ≡ h0 ++ keep_text k
keep_joined k h0 h1 h2 h3 h4 h5 h6 e1 e2 e3 e4 e5 e6 =
    e6 ∙ ap (λ (t : List ℕ). t ++ u16 k.yearly) (e5 ∙ ap (λ (t : List ℕ). t ++ u16 k.monthly) (e4 ∙ ap (λ (t : List ℕ). t ++ u16 k.weekly)
    (e3 ∙ ap (λ (t : List ℕ). t ++ u16 k.daily) (e2 ∙ ap (λ (t : List ℕ). t ++ u16 k.hourly) e1))))
    ∙ joined h0 (u16 k.last) (u16 k.hourly) (u16 k.daily) (u16 k.weekly) (u16 k.monthly) (u16 k.yearly)
