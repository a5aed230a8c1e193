-- The entries of an APPEND.
use Rattle.std.proofs.Common.{◌≡◌, ℕ, zero, suc, ◌+◌, ◌*◌, ◌%◌, ◌^◌, ◌<◌, ◌≤◌, List, [], ◌∷◌, ◌++◌, length, take, drop, All, Option, Some, None, Result, Ok, Err, refl, sym, ap, subst, ◌∙◌, append_assoc, append-nil, arith, inl, inr}
use Rattle.std.specs.Prelude.{IsSome, OnErr}
use Rattle.std.specs.Int.{w16, w64, from_le_bytes}
use Rattle.std.specs.List.{flat_map}
use Rattle.std.proofs.lemmas.Grind.{flat_map-append}
use Rattle.std.proofs.lemmas.Bool.{le-ltb, cases_lt}
use Rattle.std.proofs.lemmas.List.{length-append, length-drop, nil_from_length}
use Rattle.std.proofs.lemmas.List.Elements.{All-head, All-tail, All-push}
use Rattle.store_types.specs.declared.append.AppendEntry.{AppendEntry}
use Rattle.store_types.specs.declared.names.Digest32.{Digest32}
use Rattle.store_types.specs.Chain.Reading.{◌>>=◌}
use Rattle.wire_frames.specs.Frames.{AreBytes}
use Rattle.wire_commands.specs.Fields.{u64, whole, number_at, digest_at, many_at, rows_at}
use Rattle.wire_commands.specs.RefusalReading.{made}
use Rattle.wire_commands.specs.CommandText.{entry_text, entry_at}
use Rattle.wire_commands.specs.HasText.{FitsEntry, IsDigest}
use Rattle.wire_commands.proofs.FieldLaws.{IsField, Takes, taken_is, whole_some, both, both_field, digest_field, u16_field, u64_field}
use Rattle.wire_commands.proofs.RefusalFields.{both_made, made_some, made_again}
use Rattle.wire_commands.proofs.RowLaws.{many_takes, many_again}

-- ---- one entry

abbrev make_entry : Digest32 × ℕ → AppendEntry
make_entry p = record { digest = p.0; offset = p.1 }

pair_field : IsField (both digest_at (number_at w64)) (λ p. (p.0).0 ++ u64 p.1) (λ p. IsDigest p.0 × (p.1 < 2 ^ 64))
pair_field = both_field digest_field u64_field

entry_is : (bytes : List ℕ) → entry_at bytes ≡ made make_entry (both digest_at (number_at w64) bytes)
entry_is bytes = both_made (digest_at bytes) (number_at w64) (λ d offset. record { digest = d; offset = offset })

entry_takes : (bytes : List ℕ) → AreBytes bytes → Takes entry_text FitsEntry bytes (entry_at bytes)
entry_takes bytes fits e rest is =
    let r = made_some make_entry (both digest_at (number_at w64) bytes) e rest (sym (entry_is bytes) ∙ is) in
    taken_is entry_text FitsEntry bytes (make_entry r.0.0) e r.0.1 rest r.2 (pair_field.takes bytes fits r.0.0 r.0.1 r.1)

entry_again : (e : AppendEntry) (rest : List ℕ) → FitsEntry e → entry_at (entry_text e ++ rest) ≡ Some (e, rest)
entry_again e rest fits = entry_is (entry_text e ++ rest) ∙ made_again pair_field make_entry (e.digest, e.offset) rest fits

pub entry_field : IsField entry_at entry_text FitsEntry
entry_field = record { takes = entry_takes; again = entry_again }

length-entry : (e : AppendEntry) → FitsEntry e → length (entry_text e) ≡ 40
length-entry e fits = omega (arith, fits.0, length-append e.digest.0 (u64 e.offset))

-- in 40 bytes or more there is one
entry_there : (bytes : List ℕ) → 40 ≤ length bytes → (e : AppendEntry) × (entry_at bytes ≡ Some (e, drop 8 (drop 32 bytes)))
entry_there bytes long =
    let e : AppendEntry = record { digest = record { 0 = take 32 bytes }; offset = from_le_bytes w64 (take 8 (drop 32 bytes)) } in
    (e, rw (le-ltb (length bytes) 32 (omega (arith, long)), le-ltb (length (drop 32 bytes)) 8 (omega (arith, long, length-drop 32 bytes))) refl)

-- ---- all entries

length-entries : (es : List AppendEntry) → All FitsEntry es → length (flat_map entry_text es) ≡ length es * 40
length-entries [] fits = refl
length-entries (e ∷ es) fits =
    let first = length-entry e (All-head FitsEntry e es fits) in
    let rest = length-entries es (All-tail FitsEntry e es fits) in
    omega (arith, first, rest, length-append (entry_text e) (flat_map entry_text es))

entries_there : (n : ℕ) (bytes : List ℕ) → length bytes ≡ n * 40 → (es : List AppendEntry) × (many_at entry_at n bytes ≡ Some (es, []))
unfolding many_at
entries_there zero bytes len = ([], rw (nil_from_length bytes len) refl)
entries_there (suc n) bytes len =
    let first = entry_there bytes (omega (arith, len)) in
    let behind = drop 8 (drop 32 bytes) in
    let others = entries_there n behind (omega (arith, len, length-drop 32 bytes, length-drop 8 (drop 32 bytes))) in
    (first.0 ∷ others.0, rw (first.1, others.1) refl)

none_unless : {A : Type 0} (o : Option A) → ((x : A) → o ≡ Some x → ⊥) → o ≡ None
none_unless None h = refl
none_unless (Some x) h = absurd (h x refl)

-- so many entries, exactly where the bytes are of their size
entries_some : (n : ℕ) (bytes : List ℕ) → length bytes ≡ 40 * n → IsSome (whole (many_at entry_at n bytes))
entries_some n bytes len = rw (entries_there n bytes (omega (arith, len))).1 refl

entries_none : (n : ℕ) (bytes : List ℕ) → AreBytes bytes → (length bytes ≡ 40 * n → ⊥) → whole (many_at entry_at n bytes) ≡ None
entries_none n bytes fits apart =
    none_unless (whole (many_at entry_at n bytes)) (λ es e.
    let taken = many_takes entry_field n bytes fits es [] (whole_some (many_at entry_at n bytes) es e) in
    let text : bytes ≡ flat_map entry_text es = taken.0 ∙ append-nil (flat_map entry_text es) in
    apart (omega (arith, ap length text, taken.2, length-entries es taken.3)))

entries_are : (n : ℕ) (bytes : List ℕ) (es : List AppendEntry) → length bytes ≡ 40 * n → flat_map entry_text es ≡ bytes → All FitsEntry es
    → Some es ≡ whole (many_at entry_at n bytes)
entries_are n bytes es len text fits =
    let count : length es ≡ n = omega (arith, len, ap length text, length-entries es fits) in
    let same : flat_map entry_text es ++ [] ≡ bytes = append-nil (flat_map entry_text es) ∙ text in
    sym (rw (← count, ← same, many_again entry_field es [] fits) refl)

-- ---- behind their count

abbrev counted : ℕ × List ℕ → Option (List AppendEntry × List ℕ)
counted c = many_at entry_at c.0 c.1

counts : (bytes : List ℕ) (n : ℕ) (rest : List ℕ) → Some (n, rest) ≡ number_at w16 bytes → whole (rows_at entry_at bytes) ≡ whole (many_at entry_at n rest)
counts bytes n rest is = ap (λ (o : Option (ℕ × List ℕ)). whole (o >>= counted)) (sym is)

pub rows_none : (bytes : List ℕ) (n : ℕ) (rest : List ℕ) → AreBytes bytes → Some (n, rest) ≡ number_at w16 bytes → (length rest ≡ 40 * n → ⊥) → None ≡ whole (rows_at entry_at bytes)
rows_none bytes n rest fits is apart = sym (counts bytes n rest is ∙ entries_none n rest (u16_field.takes bytes fits n rest (sym is)).1 apart)

pub rows_some : (bytes : List ℕ) (n : ℕ) (rest : List ℕ) → Some (n, rest) ≡ number_at w16 bytes → length rest ≡ 40 * n
    → {T E : Type 0} (r : Result T E) → OnErr r (IsSome (whole (rows_at entry_at bytes)))
rows_some bytes n rest is len (Ok x) = tt
rows_some bytes n rest is len (Err e) = subst IsSome (sym (counts bytes n rest is)) (entries_some n rest len)

pub rows_are : (bytes : List ℕ) (n : ℕ) (rest : List ℕ) (es : List AppendEntry) → Some (n, rest) ≡ number_at w16 bytes → length rest ≡ 40 * n
    → flat_map entry_text es ≡ rest → All FitsEntry es → Some es ≡ whole (rows_at entry_at bytes)
rows_are bytes n rest es is len text fits = entries_are n rest es len text fits ∙ sym (counts bytes n rest is)

-- ---- the loop

pub record ReadsOn (es : List AppendEntry) (rest bytes : List ℕ) : Type 0 where
  pub joined : flat_map entry_text es ++ rest ≡ bytes
  pub are_bytes : AreBytes rest
  pub fit : All FitsEntry es
  pub whole : length rest % 40 ≡ 0

pub reads_more : (es : List AppendEntry) (e : AppendEntry) (rest behind bytes : List ℕ) → entry_at rest ≡ Some (e, behind)
    → ReadsOn es rest bytes → ReadsOn (es ++ e ∷ []) behind bytes × (length behind < length rest)
reads_more es e rest behind bytes is on =
    let taken = entry_takes rest on.are_bytes e behind is in
    let len = length-entry e taken.2 in
    let shorter : length rest ≡ 40 + length behind = omega (arith, len, ap length taken.0, length-append (entry_text e) behind) in
    let pushed : flat_map entry_text (es ++ e ∷ []) ≡ flat_map entry_text es ++ entry_text e =
    flat_map-append entry_text es (e ∷ []) ∙ ap (λ (t : List ℕ). flat_map entry_text es ++ t) (append-nil (entry_text e)) in
    let joined : flat_map entry_text (es ++ e ∷ []) ++ behind ≡ bytes =
    ap (λ (t : List ℕ). t ++ behind) pushed ∙ append_assoc (flat_map entry_text es) (entry_text e) behind
    ∙ ap (λ (t : List ℕ). flat_map entry_text es ++ t) (sym taken.0) ∙ on.joined in
    (record { joined = joined; are_bytes = taken.1; fit = All-push FitsEntry es e on.fit taken.2; whole = omega (arith, shorter, on.whole) }, omega (arith, shorter))

pub reads_all : (es : List AppendEntry) (rest bytes : List ℕ) → entry_at rest ≡ None → ReadsOn es rest bytes → flat_map entry_text es ≡ bytes
reads_all es rest bytes none on =
    elim (cases_lt (length rest) 40) [
      | inl lt ↦
          let no_more : rest ≡ [] = nil_from_length rest (omega (arith, lt, on.whole)) in
          sym (append-nil (flat_map entry_text es)) ∙ ap (λ (t : List ℕ). flat_map entry_text es ++ t) (sym no_more) ∙ on.joined
      | inr le ↦ let there = (entry_there rest le).1 in absurd cc
    ]
