-- What a text is read as, part by part.
use Rattle.std.proofs.Common.{◌≡◌, ℕ, ◌+◌, ◌%◌, Bool, true, false, not, cond, ◌&&◌, nat_eq, nat_le, length, slice_index, List, [], ◌∷◌, ◌++◌, Some, None, Option, refl, sym, ap, subst, ◌∙◌, arith}
use Rattle.std.proofs.lemmas.Bool.Decides.{nat_tests}
use Rattle.std.proofs.lemmas.List.Splits.{join_with_byte-slice_split}
use Rattle.std.specs.List.{list_all, onto_first, join_with_byte}
use Rattle.store_types.specs.declared.names.Kind.{Kind}
use Rattle.store_types.specs.declared.names.SnapshotKey.{SnapshotKey}
use Rattle.store_types.specs.declared.names.GroupKey.{GroupKey}
use Rattle.store_types.specs.Chain.Reading.{◌>>=◌, only_if}
use Rattle.store_types.specs.FileNames.{is_id, is_id_byte, is_word_byte}
use Rattle.store_types.specs.Times.{digits, time_text, time_of, has_form}
use Rattle.store_types.specs.Names.{parts, kind_of, group_of, group_from, key_of, key_from}
use Rattle.store_types.proofs.FormLemmas.{stamp, stamp_of}
use Rattle.store_types.proofs.TimeLaws.{time_of-no_form}

and_split : (a b : Bool) → (a && b) ≡ true → (a ≡ true) × (b ≡ true)
and_split true true h = (refl, refl)
and_split true false h = (refl, h)
and_split false true h = (h, refl)
and_split false false h = (h, h)

not_true : (b : Bool) → not b ≡ true → b ≡ false
not_true true h = sym h
not_true false h = refl

-- no byte is a slash
abbrev pub no_slash : List ℕ → Bool
no_slash = list_all (λ b. not (nat_eq b 47))

-- the part before a slash
pub first_part : (xs ys : List ℕ) → no_slash xs ≡ true → parts (xs ++ 47 ∷ ys) ≡ xs ∷ parts ys
first_part [] ys h = refl
first_part (x ∷ xs) ys h =
    let both = and_split (not (nat_eq x 47)) (no_slash xs) h in
    subst (λ b. cond b ([] ∷ parts (xs ++ 47 ∷ ys)) (onto_first x (parts (xs ++ 47 ∷ ys))) ≡ (x ∷ xs) ∷ parts ys) (sym (not_true (nat_eq x 47) both.0))
    (ap (onto_first x) (first_part xs ys both.1))

pub last_part : (xs : List ℕ) → no_slash xs ≡ true → parts xs ≡ xs ∷ []
last_part [] h = refl
last_part (x ∷ xs) h =
    let both = and_split (not (nat_eq x 47)) (no_slash xs) h in
    subst (λ b. cond b ([] ∷ parts xs) (onto_first x (parts xs)) ≡ (x ∷ xs) ∷ []) (sym (not_true (nat_eq x 47) both.0))
    (ap (onto_first x) (last_part xs both.1))

-- the parts are those of this text alone
pub parts-join : (text : List ℕ) → join_with_byte 47 (parts text) ≡ text
parts-join text = join_with_byte-slice_split 47 text

byte_no_slash : (b : ℕ) → is_id_byte b ≡ true → not (nat_eq b 47) ≡ true
byte_no_slash b h = grind (arith, nat_tests)

id_bytes : (xs : List ℕ) → list_all is_id_byte xs ≡ true → no_slash xs ≡ true
id_bytes [] h = refl
id_bytes (x ∷ xs) h =
    let both = and_split (is_id_byte x) (list_all is_id_byte xs) h in
    rw (byte_no_slash x both.0) (id_bytes xs both.1)

pub id_no_slash : (xs : List ℕ) → is_id xs ≡ true → no_slash xs ≡ true
id_no_slash xs h = id_bytes xs (and_split (nat_le 1 (length xs) && nat_le (length xs) 64 && is_word_byte (slice_index xs 0)) (list_all is_id_byte xs) h).1

digit_no_slash : (x : ℕ) → not (nat_eq (48 + x % 10) 47) ≡ true
digit_no_slash x = grind (arith, nat_tests)

stamp_no_slash : (y m d hour minute second : ℕ) → no_slash (stamp y m d hour minute second) ≡ true
unfolding digits
stamp_no_slash y m d hour minute second = simp digit_no_slash refl

pub time_no_slash : (t : ℕ) → no_slash (time_text t) ≡ true
unfolding time_text digits
time_no_slash t = simp digit_no_slash refl

form_no_slash : (text : List ℕ) → has_form text ≡ true → no_slash text ≡ true
form_no_slash text h = let s = stamp_of text h in rw s.is (stamp_no_slash s.year s.month s.day s.hour s.minute s.second)

-- ---- groups

pub group_of-one_part : (text : List ℕ) → parts text ≡ text ∷ [] → None ≡ group_of text
unfolding group_of
group_of-one_part text h = rw h refl

abbrev pub group_after : Option Kind → List ℕ → Option GroupKey
group_after kind id = do
  k ← kind
  _ ← only_if (is_id id)
  Some (record { kind = k; id = id })

-- what the two parts of a group's text name
abbrev pub group_read : List ℕ → List ℕ → Option GroupKey
group_read kind id = group_after (kind_of kind) id

pub group_read-no_kind : (kind id : List ℕ) → kind_of kind ≡ None → group_read kind id ≡ None
group_read-no_kind kind id h = rw h refl

no_id : (kind : Option Kind) (id : List ℕ) → is_id id ≡ false → group_after kind id ≡ None
no_id None id h = refl
no_id (Some k) id h = rw h refl

pub group_read-no_id : (kind id : List ℕ) → is_id id ≡ false → group_read kind id ≡ None
group_read-no_id kind id h = no_id (kind_of kind) id h

pub group_read-some : (kind id : List ℕ) (k : Kind) → kind_of kind ≡ Some k → is_id id ≡ true → group_read kind id ≡ Some (record { kind = k; id = id })
group_read-some kind id k is_kind is = rw (is_kind, is) refl

group_from-no_id : (kind id : List ℕ) (ps : List (List ℕ)) → parts id ≡ ps → is_id id ≡ false → group_from (kind ∷ ps) ≡ None
group_from-no_id kind id [] e h = refl
group_from-no_id kind id (p ∷ []) e h = let same : p ≡ id = ap (join_with_byte 47) (sym e) ∙ parts-join id in rw same (group_read-no_id kind id h)
group_from-no_id kind id (p ∷ q ∷ rest) e h = refl

group_from-parts : (kind id : List ℕ) (b : Bool) → is_id id ≡ b → group_from (kind ∷ parts id) ≡ group_read kind id
group_from-parts kind id true h = ap (λ ps. group_from (kind ∷ ps)) (last_part id (id_no_slash id h))
group_from-parts kind id false h = group_from-no_id kind id (parts id) refl h ∙ sym (group_read-no_id kind id h)

pub group_of-parts : (text kind id : List ℕ) → parts text ≡ kind ∷ parts id → group_of text ≡ group_read kind id
unfolding group_of
group_of-parts text kind id h = ap group_from h ∙ group_from-parts kind id (is_id id) refl

-- ---- snapshots

abbrev pub key_after : Option Kind → List ℕ → Option ℕ → Option SnapshotKey
key_after kind id time = do
  k ← kind
  _ ← only_if (is_id id)
  t ← time
  Some (record { kind = k; id = id; time = t })

-- what the three parts of a snapshot's text name
abbrev pub key_read : List ℕ → List ℕ → List ℕ → Option SnapshotKey
key_read kind id time = key_after (kind_of kind) id (time_of time)

no_key_id : (kind : Option Kind) (id : List ℕ) (time : Option ℕ) → is_id id ≡ false → key_after kind id time ≡ None
no_key_id None id time h = refl
no_key_id (Some k) id time h = rw h refl

no_time : (kind : Option Kind) (b : Bool) (id : List ℕ) (time : Option ℕ) → is_id id ≡ b → time ≡ None → key_after kind id time ≡ None
no_time None b id time h e = refl
no_time (Some k) false id time h e = rw h refl
no_time (Some k) true id time h e = rw (h, e) refl

pub key_read-no_kind : (kind id time : List ℕ) → kind_of kind ≡ None → key_read kind id time ≡ None
key_read-no_kind kind id time h = rw h refl

pub key_read-no_id : (kind id time : List ℕ) → is_id id ≡ false → key_read kind id time ≡ None
key_read-no_id kind id time h = no_key_id (kind_of kind) id (time_of time) h

pub key_read-no_time : (kind id time : List ℕ) → time_of time ≡ None → key_read kind id time ≡ None
key_read-no_time kind id time h = no_time (kind_of kind) (is_id id) id (time_of time) refl h

pub key_read-some : (kind id time : List ℕ) (k : Kind) (t : ℕ) → kind_of kind ≡ Some k → is_id id ≡ true → time_of time ≡ Some t → key_read kind id time ≡ Some (record { kind = k; id = id; time = t })
key_read-some kind id time k t is_kind is is_time = rw (is_kind, is, is_time) refl

key_from-no_time : (kind id time : List ℕ) (ps : List (List ℕ)) → parts time ≡ ps → time_of time ≡ None → key_from (kind ∷ id ∷ ps) ≡ None
key_from-no_time kind id time [] e h = refl
key_from-no_time kind id time (p ∷ []) e h = let same : p ≡ time = ap (join_with_byte 47) (sym e) ∙ parts-join time in rw same (key_read-no_time kind id time h)
key_from-no_time kind id time (p ∷ q ∷ rest) e h = refl

key_from-parts : (kind id time : List ℕ) (b : Bool) → has_form time ≡ b → key_from (kind ∷ id ∷ parts time) ≡ key_read kind id time
key_from-parts kind id time true h = ap (λ ps. key_from (kind ∷ id ∷ ps)) (last_part time (form_no_slash time h))
key_from-parts kind id time false h =
    let none = time_of-no_form time h in
    key_from-no_time kind id time (parts time) refl none ∙ sym (key_read-no_time kind id time none)

pub key_of-parts : (text kind rest id time : List ℕ) → parts text ≡ kind ∷ parts rest → parts rest ≡ id ∷ parts time → key_of text ≡ key_read kind id time
unfolding key_of
key_of-parts text kind rest id time h e = ap key_from (h ∙ ap (λ ps. kind ∷ ps) e) ∙ key_from-parts kind id time (has_form time) refl

pub key_of-one_part : (text : List ℕ) → parts text ≡ text ∷ [] → None ≡ key_of text
unfolding key_of
key_of-one_part text h = rw h refl

pub key_of-two_parts : (text kind rest : List ℕ) → parts text ≡ kind ∷ parts rest → parts rest ≡ rest ∷ [] → None ≡ key_of text
unfolding key_of
key_of-two_parts text kind rest h e = rw (h, e) refl
