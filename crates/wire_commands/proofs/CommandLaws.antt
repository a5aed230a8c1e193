-- A command that is read is spelled so, and one that is spelled is read again.
use Rattle.std.proofs.Common.{◌≡◌, ℕ, suc, ◌^◌, ◌<◌, ◌≤◌, Bool, List, [], ◌∷◌, ◌++◌, length, leb, Option, Some, None, Result, Ok, Err, IfOk, sym, refl, ap, subst, ◌∙◌}
use Rattle.std.specs.Result.{result_ok}
use Rattle.std.proofs.lemmas.Bool.{leb-true, le-leb}
use Rattle.store_types.specs.Chain.Reading.{◌>>=◌, only_if}
use Rattle.wire_frames.specs.Frames.{body_limit, AreBytes}
use Rattle.wire_commands.specs.declared.command.Command.{Command}
use Rattle.wire_commands.specs.declared.command.Command.TheVariants.{OpenWriter, Previous, NewFixed, NewDynamic, Chunk, Append, CloseIndex, Blob, Finish, Abort, OpenReader, Download, GetChunk, Range, CloseReader, List as ListAll, Files, Forget, Prune, Verify, Sync, Gc, Group, Bye}
use Rattle.std.specs.Int.{w32, w64}
use Rattle.store_types.specs.declared.names.Digest32.{Digest32}
use Rattle.store_types.specs.declared.names.Keep.{Keep}
use Rattle.wire_commands.specs.Fields.{Read, u32, u64, text, flag, byte_at, number_at, digest_at, text_at, flag_at, whole}
use Rattle.wire_commands.specs.CommandText.{command_text, nothing_more, one_text, text_and_offset, new_fixed, chunk, append, close_index, blob, get_chunk, range, keep_text, keep_at, prune, fields_of, command_of}
use Rattle.wire_commands.specs.HasText.{HasText, IsText, FitsKeep, FitsCommand, CommandsAreReadAgain, CommandsHaveOneText}
use Rattle.wire_commands.proofs.FieldLaws.{IsField, both, both_field, byte_field, u32_field, u64_field, digest_field, text_field}
use Rattle.wire_commands.proofs.RefusalFields.{either_at, only_if_some}
use Rattle.wire_commands.proofs.BodyLaws.{Spells, none_spells, nothing_spells, one_spells, one_again, two_first, two_spells, two_again, rest_spells, rest_again}
use Rattle.wire_commands.proofs.RowLaws.{rows_field}
use Rattle.wire_commands.proofs.EntryLaws.{entry_field}
use Rattle.wire_commands.proofs.ListFields.{flag_field, keep_field}

-- ---- the four fields of a CLOSE_INDEX, as one of the first three and one

abbrev three_at : List ℕ → Read ((ℕ × ℕ) × ℕ)
three_at = both (both byte_at (number_at w64)) (number_at w64)

three_field : IsField three_at (λ p. ((p.0).0 ∷ [] ++ u64 (p.0).1) ++ u64 p.1) (λ p. (((p.0).0 < 256) × ((p.0).1 < 2 ^ 64)) × (p.1 < 2 ^ 64))
three_field = both_field (both_field byte_field u64_field) u64_field

abbrev make_close : (ℕ × ℕ) × ℕ → Digest32 → Command
make_close p csum = CloseIndex (p.0).0 (p.0).1 p.1 csum

close_is : (bytes : List ℕ) → close_index bytes ≡ (three_at bytes >>= (λ p. whole (digest_at p.1) >>= (λ csum. Some (make_close p.0 csum))))
unfolding close_index
close_is bytes =
    let last : (ℕ × ℕ) × ℕ → List ℕ → Option Command = λ p rest. whole (digest_at rest) >>= (λ csum. Some (make_close p csum)) in
    two_first byte_at (number_at w64) (λ number count rest. number_at w64 rest >>= (λ size. last ((number, count), size.0) size.1)) bytes
    ∙ two_first (both byte_at (number_at w64)) (number_at w64) (λ p size rest. last (p, size) rest) bytes

close_spells : (bytes : List ℕ) → AreBytes bytes → Spells command_text FitsCommand bytes 16 (close_index bytes)
unfolding command_text
close_spells bytes fits =
    subst (Spells command_text FitsCommand bytes 16) (sym (close_is bytes))
    (two_spells command_text FitsCommand three_field digest_field make_close bytes 16 fits (λ p. refl) (λ p h. ((h.0).0.0, (h.0).0.1, (h.0).1, h.1)))

close_again : (number count size : ℕ) (csum : Digest32) → FitsCommand (CloseIndex number count size csum)
    → close_index (number ∷ u64 count ++ u64 size ++ csum.0) ≡ Some (CloseIndex number count size csum)
close_again number count size csum fits =
    close_is (number ∷ u64 count ++ u64 size ++ csum.0)
    ∙ two_again three_field digest_field make_close ((number, count), size) csum ((fits.0, fits.1), fits.2) fits.3

-- ---- a text and two numbers, as one field of the first two and one

abbrev text_and_number : List ℕ → Read (List ℕ × ℕ)
text_and_number = both text_at (number_at w64)

text_and_number_field : IsField text_and_number (λ p. text p.0 ++ u64 p.1) (λ p. (length p.0 < 256) × (p.1 < 2 ^ 64))
text_and_number_field = both_field text_field u64_field

abbrev make_fixed : List ℕ × ℕ → ℕ → Command
make_fixed p chunk_size = NewFixed p.0 p.1 chunk_size

fixed_is : (bytes : List ℕ) → new_fixed bytes ≡ (text_and_number bytes >>= (λ p. whole (number_at w64 p.1) >>= (λ chunk_size. Some (make_fixed p.0 chunk_size))))
unfolding new_fixed
fixed_is bytes =
    two_first text_at (number_at w64) (λ file size rest. whole (number_at w64 rest) >>= (λ chunk_size. Some (NewFixed file size chunk_size))) bytes

fixed_spells : (bytes : List ℕ) → AreBytes bytes → Spells command_text FitsCommand bytes 12 (new_fixed bytes)
unfolding command_text
fixed_spells bytes fits =
    subst (Spells command_text FitsCommand bytes 12) (sym (fixed_is bytes))
    (two_spells command_text FitsCommand text_and_number_field u64_field make_fixed bytes 12 fits (λ p. refl) (λ p h. ((h.0).0, (h.0).1, h.1)))

fixed_again : (file : List ℕ) (size chunk_size : ℕ) → FitsCommand (NewFixed file size chunk_size)
    → new_fixed (text file ++ u64 size ++ u64 chunk_size) ≡ Some (NewFixed file size chunk_size)
fixed_again file size chunk_size fits =
    fixed_is (text file ++ u64 size ++ u64 chunk_size)
    ∙ two_again text_and_number_field u64_field make_fixed (file, size) chunk_size (fits.0, fits.1) fits.2

abbrev make_range : List ℕ × ℕ → ℕ → Command
make_range p len = Range p.0 p.1 len

range_is : (bytes : List ℕ) → range bytes ≡ (text_and_number bytes >>= (λ p. whole (number_at w32 p.1) >>= (λ len. Some (make_range p.0 len))))
unfolding range
range_is bytes =
    two_first text_at (number_at w64) (λ file offset rest. whole (number_at w32 rest) >>= (λ len. Some (Range file offset len))) bytes

range_spells : (bytes : List ℕ) → AreBytes bytes → Spells command_text FitsCommand bytes 23 (range bytes)
unfolding command_text
range_spells bytes fits =
    subst (Spells command_text FitsCommand bytes 23) (sym (range_is bytes))
    (two_spells command_text FitsCommand text_and_number_field u32_field make_range bytes 23 fits (λ p. refl) (λ p h. ((h.0).0, (h.0).1, h.1)))

range_again : (file : List ℕ) (offset len : ℕ) → FitsCommand (Range file offset len)
    → range (text file ++ u64 offset ++ u32 len) ≡ Some (Range file offset len)
range_again file offset len fits =
    range_is (text file ++ u64 offset ++ u32 len)
    ∙ two_again text_and_number_field u32_field make_range (file, offset) len (fits.0, fits.1) fits.2

-- ---- the fields of a PRUNE, as one of the first two and one

abbrev text_and_keep : List ℕ → Read (List ℕ × Keep)
text_and_keep = both text_at keep_at

text_and_keep_field : IsField text_and_keep (λ p. text p.0 ++ keep_text p.1) (λ p. IsText p.0 × FitsKeep p.1)
text_and_keep_field = both_field text_field keep_field

abbrev make_prune : List ℕ × Keep → Bool → Command
make_prune p dry = Prune p.0 p.1 dry

prune_is : (bytes : List ℕ) → prune bytes ≡ (text_and_keep bytes >>= (λ p. whole (flag_at p.1) >>= (λ dry. Some (make_prune p.0 dry))))
unfolding prune
prune_is bytes =
    two_first text_at keep_at (λ group keep rest. whole (flag_at rest) >>= (λ dry. Some (Prune group keep dry))) bytes

prune_spells : (bytes : List ℕ) → AreBytes bytes → Spells command_text FitsCommand bytes 33 (prune bytes)
unfolding command_text
prune_spells bytes fits =
    subst (Spells command_text FitsCommand bytes 33) (sym (prune_is bytes))
    (two_spells command_text FitsCommand text_and_keep_field flag_field make_prune bytes 33 fits (λ p. refl) (λ p h. h.0))

prune_again : (group : List ℕ) (keep : Keep) (dry : Bool) → FitsCommand (Prune group keep dry)
    → prune (text group ++ keep_text keep ++ flag dry) ≡ Some (Prune group keep dry)
prune_again group keep dry fits =
    prune_is (text group ++ keep_text keep ++ flag dry)
    ∙ two_again text_and_keep_field flag_field make_prune (group, keep) dry fits tt

-- ---- all commands

fields_spell : (n : ℕ) (bytes : List ℕ) → AreBytes bytes → Spells command_text FitsCommand bytes n (fields_of n bytes)
unfolding fields_of command_text nothing_more one_text text_and_offset chunk append blob get_chunk
fields_spell n bytes fits =
    let P : ℕ → Option Command → Type 0 = Spells command_text FitsCommand bytes in
    either_at P n 10 (one_text OpenWriter bytes) _ (one_spells command_text FitsCommand text_field OpenWriter bytes 10 fits (λ t. refl) (λ t h. h))
    (either_at P n 11 (text_and_offset Previous bytes) _ (two_spells command_text FitsCommand text_field u64_field Previous bytes 11 fits (λ p. refl) (λ p h. h))
    (either_at P n 12 (new_fixed bytes) _ (fixed_spells bytes fits)
    (either_at P n 13 (one_text NewDynamic bytes) _ (one_spells command_text FitsCommand text_field NewDynamic bytes 13 fits (λ t. refl) (λ t h. h))
    (either_at P n 14 (chunk bytes) _ (rest_spells command_text FitsCommand digest_field Chunk bytes 14 fits (λ d rest. refl) (λ d rest h. h))
    (either_at P n 15 (append bytes) _ (two_spells command_text FitsCommand byte_field (rows_field entry_field) Append bytes 15 fits (λ p. refl) (λ p h. (h.0, (h.1).0, (h.1).1)))
    (either_at P n 16 (close_index bytes) _ (close_spells bytes fits)
    (either_at P n 17 (blob bytes) _ (rest_spells command_text FitsCommand text_field Blob bytes 17 fits (λ t rest. refl) (λ t rest h. h))
    (either_at P n 18 (nothing_more Finish bytes) _ (nothing_spells command_text FitsCommand bytes 18 Finish tt refl)
    (either_at P n 19 (nothing_more Abort bytes) _ (nothing_spells command_text FitsCommand bytes 19 Abort tt refl)
    (either_at P n 20 (one_text OpenReader bytes) _ (one_spells command_text FitsCommand text_field OpenReader bytes 20 fits (λ t. refl) (λ t h. h))
    (either_at P n 21 (text_and_offset Download bytes) _ (two_spells command_text FitsCommand text_field u64_field Download bytes 21 fits (λ p. refl) (λ p h. h))
    (either_at P n 22 (get_chunk bytes) _ (one_spells command_text FitsCommand digest_field GetChunk bytes 22 fits (λ d. refl) (λ d h. h))
    (either_at P n 23 (range bytes) _ (range_spells bytes fits)
    (either_at P n 24 (nothing_more CloseReader bytes) _ (nothing_spells command_text FitsCommand bytes 24 CloseReader tt refl)
    (either_at P n 30 (one_text ListAll bytes) _ (one_spells command_text FitsCommand text_field ListAll bytes 30 fits (λ t. refl) (λ t h. h))
    (either_at P n 31 (one_text Files bytes) _ (one_spells command_text FitsCommand text_field Files bytes 31 fits (λ t. refl) (λ t h. h))
    (either_at P n 32 (one_text Forget bytes) _ (one_spells command_text FitsCommand text_field Forget bytes 32 fits (λ t. refl) (λ t h. h))
    (either_at P n 33 (prune bytes) _ (prune_spells bytes fits)
    (either_at P n 34 (one_text Verify bytes) _ (one_spells command_text FitsCommand text_field Verify bytes 34 fits (λ t. refl) (λ t h. h))
    (either_at P n 35 (one_text Sync bytes) _ (one_spells command_text FitsCommand text_field Sync bytes 35 fits (λ t. refl) (λ t h. h))
    (either_at P n 36 (nothing_more Gc bytes) _ (nothing_spells command_text FitsCommand bytes 36 Gc tt refl)
    (either_at P n 40 (one_text Group bytes) _ (one_spells command_text FitsCommand text_field Group bytes 40 fits (λ t. refl) (λ t h. h))
    (either_at P n 63 (nothing_more Bye bytes) None (nothing_spells command_text FitsCommand bytes 63 Bye tt refl)
    (none_spells command_text FitsCommand bytes n))))))))))))))))))))))))

-- the command of a body of any length
abbrev command_in : List ℕ → Option Command
command_in body = byte_at body >>= (λ code. fields_of code.0 code.1)

pub within_limit : (body : List ℕ) → length body ≤ body_limit → command_of body ≡ command_in body
unfolding command_of
within_limit body h = ap (λ (b : Bool). only_if b >>= (λ u. command_in body)) (le-leb (length body) body_limit h)

fields_again : (c : Command) → FitsCommand c → command_in (command_text c) ≡ Some c
unfolding command_text fields_of nothing_more one_text text_and_offset chunk append blob get_chunk
fields_again (OpenWriter snapshot) fits = one_again text_field OpenWriter snapshot fits
fields_again (Previous file offset) fits = two_again text_field u64_field Previous file offset fits.0 fits.1
fields_again (NewFixed file size chunk_size) fits = fixed_again file size chunk_size fits
fields_again (NewDynamic file) fits = one_again text_field NewDynamic file fits
fields_again (Chunk digest content) fits = rest_again digest_field Chunk digest content fits
fields_again (Append number entries) fits = two_again byte_field (rows_field entry_field) Append number entries fits.0 (fits.1, fits.2)
fields_again (CloseIndex number count size csum) fits = close_again number count size csum fits
fields_again (Blob file content) fits = rest_again text_field Blob file content fits
fields_again Finish fits = refl
fields_again Abort fits = refl
fields_again (OpenReader snapshot) fits = one_again text_field OpenReader snapshot fits
fields_again (Download file offset) fits = two_again text_field u64_field Download file offset fits.0 fits.1
fields_again (GetChunk digest) fits = one_again digest_field GetChunk digest fits
fields_again (Range file offset len) fits = range_again file offset len fits
fields_again CloseReader fits = refl
fields_again (ListAll after) fits = one_again text_field ListAll after fits
fields_again (Files snapshot) fits = one_again text_field Files snapshot fits
fields_again (Forget snapshot) fits = one_again text_field Forget snapshot fits
fields_again (Prune group keep dry) fits = prune_again group keep dry fits
fields_again (Verify snapshot) fits = one_again text_field Verify snapshot fits
fields_again (Sync group) fits = one_again text_field Sync group fits
fields_again Gc fits = refl
fields_again (Group group) fits = one_again text_field Group group fits
fields_again Bye fits = refl

pub commands_again : CommandsAreReadAgain
commands_again c h = within_limit (command_text c) h.1 ∙ fields_again c h.0

command_spells : (body : List ℕ) (c : Command) → AreBytes body → command_in body ≡ Some c → FitsCommand c × (body ≡ command_text c)
command_spells [] c fits e = absurd cc
command_spells (n ∷ bytes) c fits e = fields_spell n bytes (λ i. fits (suc i)) c e

pub commands_one_text : CommandsHaveOneText
unfolding command_of
commands_one_text body c bytes e =
    let held = only_if_some (leb (length body) body_limit) (command_in body) c e in
    let is = command_spells body c bytes held.1 in
    let short : length body ≤ body_limit = leb-true (length body) body_limit held.0 in
    ((is.0, subst (λ (t : List ℕ). length t ≤ body_limit) is.1 short), is.1)

-- of a read
abbrev IsSpelledBy : List ℕ → Command → Type 0
IsSpelledBy body c = HasText c × (body ≡ command_text c)

pub read_spelled : {E : Type 0} (body : List ℕ) (o : Option Command) (r : Result Command E) → AreBytes body → o ≡ command_of body → o ≡ result_ok r → IfOk r (IsSpelledBy body)
read_spelled body o (Ok c) bytes is ok = commands_one_text body c bytes (sym is ∙ ok)
read_spelled body o (Err e) bytes is ok = tt
