-- The commands by which a SYNC uploads a snapshot, one by one.
use Rattle.std.proofs.Common.{◌≡◌, ℕ, suc, ◌+◌, ◌≤◌, ◌<◌, Bool, true, false, cond, List, [], ◌∷◌, ◌++◌, map, length, get_or, drop, drop-cons, add-one, Option, Some, refl, sym, ap, ◌∙◌, append_assoc, append-nil}
use Rattle.std.specs.FinMap.{get, insert, empty, get-insert, get-empty}
use Rattle.std.specs.Cmp.{eq_by_cmp_equiv}
use Rattle.std.specs.Cmp.Lexicographic.{nat_list_cmp_total}
use Rattle.std.specs.Ordering.{eq_by_cmp}
use Rattle.std.specs.List.{list_any}
use Rattle.std.specs.Prelude.{◌||◌, is_some}
use Rattle.std.proofs.lemmas.List.{drop_all}
use Rattle.std.proofs.lemmas.Map.Text.{is_eq-slice_cmp}
use Rattle.std.proofs.lemmas.Slice.Eq.{bytes_eq-Decides}
use Rattle.sha2.specs.Sha256.{sha256}
use Rattle.store_types.specs.declared.append.AppendEntry.{AppendEntry}
use Rattle.store_types.specs.Names.{text_cmp}
use Rattle.store_types.specs.FileNames.{manifest_name}
use Rattle.known_chunks.specs.Lengths.{Lengths}
use Rattle.store_files.specs.Archive.{Content, archive, blob, File, Snapshot, digest_of, pieces_of, file_named}
use Rattle.wire_commands.specs.declared.command.Command.{Command}
use Rattle.wire_commands.specs.declared.command.Command.TheVariants.{Blob, Finish}
use Rattle.store_model.specs.SyncJob.{has_digest_of, unsent, entries_from, appends, file_commands, new_index, uploads, listed_files, text_of, commands_of}
use Rattle.plain_lanes.specs.Uploading.{is_sent, sent_with, sent_after, chunk_of, one_chunk, chunks_of, close_of, file_commands_by, uploads_by}

-- ---- by digests, as by pieces

-- a piece is marked as sent where one with its digest is among these
abbrev Marks : Lengths → List (List ℕ) → Type 0
Marks sent pieces = (q : List ℕ) → is_sent q sent ≡ list_any (has_digest_of q) pieces

same_test : (p q : List ℕ) → eq_by_cmp text_cmp (sha256 q) (sha256 p) ≡ has_digest_of q p
same_test p q = (eq_by_cmp_equiv nat_list_cmp_total).symm (sha256 q) (sha256 p) ∙ is_eq-slice_cmp (sha256 p) (sha256 q)

some_either : (b : Bool) (o : Option ℕ) → is_some (cond b (Some 0) o) ≡ (b || is_some o)
some_either true o = refl
some_either false o = refl

-- what has the digest of a marked piece is marked
marked_alike : (sent : Lengths) (p q : List ℕ) (b : Bool) → has_digest_of q p ≡ b → is_sent p sent ≡ true → is_sent q sent ≡ (b || is_sent q sent)
marked_alike sent p q true e h = ap (λ d. is_some (get sent d)) (sym ((bytes_eq-Decides (sha256 p) (sha256 q)).0 e)) ∙ h
marked_alike sent p q false e h = refl

marked_more : (sent : Lengths) (p q : List ℕ) → is_sent q (sent_with p sent) ≡ (has_digest_of q p || is_sent q sent)
marked_more sent p q = by_test (is_sent p sent) refl
  where
    by_test : (b : Bool) → is_sent p sent ≡ b → is_sent q (cond b sent (insert sent (sha256 p) 0)) ≡ (has_digest_of q p || is_sent q sent)
    by_test true e = marked_alike sent p q (has_digest_of q p) refl e
    by_test false e =
        ap is_some (get-insert nat_list_cmp_total sent (sha256 p) 0 (sha256 q)) ∙ some_either (eq_by_cmp text_cmp (sha256 q) (sha256 p)) (get sent (sha256 q))
        ∙ ap (λ b. b || is_sent q sent) (same_test p q)

marks_more : (sent : Lengths) (pieces : List (List ℕ)) (p : List ℕ) → Marks sent pieces → Marks (sent_with p sent) (p ∷ pieces)
marks_more sent pieces p marks = λ q. marked_more sent p q ∙ ap (λ b. has_digest_of q p || b) (marks q)

or_swap : (a b c : Bool) → (a || (b || c)) ≡ (b || (a || c))
or_swap true true c = refl
or_swap true false c = refl
or_swap false b c = refl

any_middle : (f : List ℕ → Bool) (p : List ℕ) (ps rest : List (List ℕ)) → list_any f (ps ++ p ∷ rest) ≡ list_any f (p ∷ ps ++ rest)
any_middle f p [] rest = refl
any_middle f p (x ∷ xs) rest = ap (λ b. f x || b) (any_middle f p xs rest) ∙ or_swap (f x) (f p) (list_any f (xs ++ rest))

marks_all : (sent : Lengths) (pieces ps : List (List ℕ)) → Marks sent pieces → Marks (sent_after ps sent) (ps ++ pieces)
marks_all sent pieces [] marks = marks
marks_all sent pieces (p ∷ ps) marks = λ q. marks_all (sent_with p sent) (p ∷ pieces) ps (marks_more sent pieces p marks) q ∙ any_middle (has_digest_of q) p ps pieces

chunks_same : (sent : Lengths) (pieces ps : List (List ℕ)) → Marks sent pieces → chunks_of sent ps ≡ map chunk_of (unsent pieces ps)
chunks_same sent pieces [] marks = refl
chunks_same sent pieces (p ∷ ps) marks =
    by_test (is_sent p sent) (list_any (has_digest_of p) pieces) refl (marks p) (chunks_same sent pieces ps marks) (chunks_same (sent_with p sent) (p ∷ pieces) ps (marks_more sent pieces p marks))
  where
    by_test : (b t : Bool) → is_sent p sent ≡ b → b ≡ t
        → chunks_of sent ps ≡ map chunk_of (unsent pieces ps) → chunks_of (sent_with p sent) ps ≡ map chunk_of (unsent (p ∷ pieces) ps)
        → cond b [] (chunk_of p ∷ []) ++ chunks_of (cond b sent (insert sent (sha256 p) 0)) ps ≡ map chunk_of (cond t (unsent pieces ps) (p ∷ unsent (p ∷ pieces) ps))
    by_test true true e s old new = old
    by_test false false e s old new =
        let more = ap (λ b. cond b sent (insert sent (sha256 p) 0)) (sym e) in
        ap (λ l. chunk_of p ∷ l) (ap (λ m. chunks_of m ps) more ∙ new)
    by_test true false e s old new = cc
    by_test false true e s old new = cc

file_same : (sent : Lengths) (pieces : List (List ℕ)) (name : List ℕ) (content : Content) → Marks sent pieces → file_commands_by sent name content ≡ file_commands pieces name content
unfolding file_commands
file_same sent pieces name (archive a) marks =
    ap (λ l. new_index a.layout name ∷ l ++ appends (length a.pieces) (entries_from 0 a.pieces) ++ close_of a ∷ []) (chunks_same sent pieces a.pieces marks)
file_same sent pieces name (blob bytes) marks = refl

uploads_from : (sent : Lengths) (pieces : List (List ℕ)) (files : List File) → Marks sent pieces → uploads_by sent files ≡ uploads pieces files
unfolding uploads
uploads_from sent pieces [] marks = refl
uploads_from sent pieces (f ∷ fs) marks =
    ap (λ l. l ++ uploads_by (sent_after (pieces_of f.content) sent) fs) (file_same sent pieces f.name f.content marks)
    ∙ ap (λ l. file_commands pieces f.name f.content ++ l)
    (uploads_from (sent_after (pieces_of f.content) sent) (pieces_of f.content ++ pieces) fs (marks_all sent pieces (pieces_of f.content) marks))

pub uploads_same : (files : List File) → uploads_by empty files ≡ uploads [] files
uploads_same files = uploads_from empty [] files (λ q. ap is_some (get-empty text_cmp (sha256 q)))

-- ---- from a place on

pub from_place : {A : Type 0} (xs : List A) (i : ℕ) (x : A) → i < length xs → x ≡ get_or xs i x → drop i xs ≡ x ∷ drop (i + 1) xs
from_place xs i x below is =
    drop-cons xs i x below ∙ ap (λ y. y ∷ drop (suc i) xs) (sym is) ∙ ap (λ k. x ∷ drop k xs) (sym (add-one i))

-- ---- command by command

-- all is done
pub all_done : {A B : Type 0} (f : List A → List B) (before r : List B) (xs : List A) (n : ℕ) → f [] ≡ [] → length xs ≤ n → before ++ f (drop n xs) ≡ r → before ≡ r
all_done f before r xs n none le h = sym (append-nil before) ∙ sym (ap (λ l. before ++ l) (ap f (drop_all n xs le) ∙ none)) ∙ h

-- a piece whose digest is sent, or is not
module _ (sent : Lengths) (p : List ℕ) where
  pub chunk_sent : (commands : List Command) → is_sent p sent ≡ true → commands ≡ commands ++ one_chunk sent p
  chunk_sent commands h = sym (append-nil commands) ∙ ap (λ b. commands ++ cond b [] (chunk_of p ∷ [])) (sym h)

  pub chunk_unsent : (commands new : List Command) (one : Command) → is_sent p sent ≡ false → one ≡ chunk_of p → new ≡ commands ++ one ∷ []
      → new ≡ commands ++ one_chunk sent p
  chunk_unsent commands new one h own pushed =
      pushed ∙ ap (λ (x : Command). commands ++ x ∷ []) own ∙ ap (λ b. commands ++ cond b [] (chunk_of p ∷ [])) (sym h)

  pub sent_already : is_sent p sent ≡ true → sent ≡ sent_with p sent
  sent_already h = ap (λ b. cond b sent (insert sent (sha256 p) 0)) (sym h)

  pub sent_now : (new : Lengths) → is_sent p sent ≡ false → new ≡ insert sent (sha256 p) 0 → new ≡ sent_with p sent
  sent_now new h added = added ∙ ap (λ b. cond b sent (insert sent (sha256 p) 0)) (sym h)

-- one of several pieces
pub chunk_pushed : (commands new : List Command) (sent more : Lengths) (p : List ℕ) (pieces rest : List (List ℕ)) → pieces ≡ p ∷ rest
    → new ≡ commands ++ one_chunk sent p → more ≡ sent_with p sent → new ++ chunks_of more rest ≡ commands ++ chunks_of sent pieces
chunk_pushed commands new sent more p pieces rest next pushed is =
    ap (λ cs. cs ++ chunks_of more rest) pushed ∙ append_assoc commands (one_chunk sent p) (chunks_of more rest)
    ∙ ap (λ m. commands ++ (one_chunk sent p ++ chunks_of m rest)) is
    ∙ sym (ap (λ ps. commands ++ chunks_of sent ps) next)

pub sent_on : (sent more : Lengths) (p : List ℕ) (pieces rest : List (List ℕ)) → pieces ≡ p ∷ rest → more ≡ sent_with p sent → sent_after rest more ≡ sent_after pieces sent
sent_on sent more p pieces rest next is = ap (sent_after rest) is ∙ sym (ap (λ ps. sent_after ps sent) next)

pub sent_all : (sent : Lengths) (pieces : List (List ℕ)) (n : ℕ) → length pieces ≤ n → sent ≡ sent_after (drop n pieces) sent
sent_all sent pieces n le = sym (ap (λ ps. sent_after ps sent) (drop_all n pieces le))

pub entry_pushed : (entries new : List AppendEntry) (e : AppendEntry) (offset further : ℕ) (p : List ℕ) (pieces rest : List (List ℕ)) → pieces ≡ p ∷ rest
    → new ≡ entries ++ e ∷ [] → e ≡ record { digest = digest_of p; offset = offset } → further ≡ offset + length p
    → new ++ entries_from further rest ≡ entries ++ entries_from offset pieces
entry_pushed entries new e offset further p pieces rest next pushed own is =
    ap (λ es. es ++ entries_from further rest) pushed ∙ append_assoc entries (e ∷ []) (entries_from further rest)
    ∙ ap (λ n. entries ++ e ∷ entries_from n rest) is
    ∙ ap (λ (x : AppendEntry). entries ++ x ∷ entries_from (offset + length p) rest) own
    ∙ sym (ap (λ ps. entries ++ entries_from offset ps) next)

pub file_pushed : (commands new : List Command) (sent more : Lengths) (f : File) (files rest : List File) → files ≡ f ∷ rest
    → new ≡ commands ++ file_commands_by sent f.name f.content → more ≡ sent_after (pieces_of f.content) sent
    → new ++ uploads_by more rest ≡ commands ++ uploads_by sent files
file_pushed commands new sent more f files rest next pushed is =
    ap (λ cs. cs ++ uploads_by more rest) pushed ∙ append_assoc commands (file_commands_by sent f.name f.content) (uploads_by more rest)
    ∙ ap (λ ds. commands ++ (file_commands_by sent f.name f.content ++ uploads_by ds rest)) is
    ∙ sym (ap (λ fs. commands ++ uploads_by sent fs) next)

-- an archive's, in four parts
pub archive_pushed : (commands one two three four : List Command) (begin close : Command) (chunks appended : List Command)
    → one ≡ commands ++ begin ∷ [] → two ≡ one ++ chunks → three ≡ two ++ appended → four ≡ three ++ close ∷ []
    → four ≡ commands ++ (begin ∷ chunks ++ appended ++ close ∷ [])
archive_pushed commands one two three four begin close chunks appended first second third fourth =
    fourth ∙ ap (λ l. l ++ close ∷ []) (third ∙ ap (λ l. l ++ appended) (second ∙ ap (λ l. l ++ chunks) first))
    ∙ ap (λ l. l ++ appended ++ close ∷ []) (append_assoc commands (begin ∷ []) chunks)
    ∙ ap (λ l. l ++ close ∷ []) (append_assoc commands (begin ∷ chunks) appended)
    ∙ append_assoc commands (begin ∷ chunks ++ appended) (close ∷ [])

-- behind the files come the manifest and FINISH
pub all_pushed : (x : Snapshot) (files : List File) (cs one two : List Command) (name contents : List ℕ) → files ≡ listed_files x → cs ≡ uploads_by empty files
    → one ≡ cs ++ Blob name contents ∷ [] → two ≡ one ++ Finish ∷ [] → name ≡ manifest_name → contents ≡ text_of (file_named manifest_name x.files) → two ≡ commands_of x
unfolding commands_of
all_pushed x files cs one two name contents listed made first second named told =
    second ∙ ap (λ l. l ++ Finish ∷ []) first ∙ append_assoc cs (Blob name contents ∷ []) (Finish ∷ [])
    ∙ ap (λ l. l ++ Blob name contents ∷ Finish ∷ []) (made ∙ ap (uploads_by empty) listed ∙ uploads_same (listed_files x))
    ∙ ap (λ n. uploads [] (listed_files x) ++ Blob n contents ∷ Finish ∷ []) named
    ∙ ap (λ t. uploads [] (listed_files x) ++ Blob manifest_name t ∷ Finish ∷ []) told
