-- All commands of a session have a text, and its input is read as these commands.
use Rattle.std.proofs.Common.{◌≡◌, ℕ, zero, suc, ◌+◌, ◌*◌, ◌^◌, ◌<◌, ◌≤◌, eqb, Bool, true, false, if◌then◌else◌, List, [], ◌∷◌, ◌++◌, length, Result, Ok, Err, refl, sym, ap, subst, ◌∙◌, arith, append_assoc, append-nil, length-append, lit<, lit≤}
use Rattle.std.specs.List.{AllByRecursion, flat_map, range_with_len}
use Rattle.std.proofs.lemmas.Grind.{flat_map-append}
use Rattle.std.proofs.lemmas.List.{map-id}
use Rattle.std.proofs.lemmas.List.FromFn.{map-range_with_len_more}
use Rattle.wire_commands.specs.CommandText.{command_text}
use Rattle.wire_commands.specs.Inputs.{next, front, body_front, commands_from, frames}
use Rattle.wire_commands.specs.declared.command.Command.{Command}
use Rattle.wire_commands.specs.declared.command.Command.TheVariants.{NewDynamic, Finish, Forget, Prune, Verify, Gc, Bye}
use Rattle.wire_commands.proofs.CommandLaws.{commands_again}
use Rattle.wire_commands.proofs.InputLaws.{frames_are_commands, inputs_go_on}
use Rattle.generator.specs.Pieces.{piece_at, pieces, is_sent}
use Rattle.generator.specs.Manifests.{snapshot_of, group_of, archive_name}
use Rattle.generator.specs.Archives.{size_of, csum_of}
use Rattle.generator.specs.Sessions.{collections, previous, opening, two_last, chunk_of, chunk_at, first_chunks, chunks, closing, backup, first_backups, backups, Puts, upkeep, session_of, framed, input_of}
use Rattle.generator.specs.Laws.{EndsWell, at_bye, behind, IsCommands}
use Rattle.generator.proofs.PieceLemmas.{piece_fits}
use Rattle.generator.proofs.CommandTexts.{Small, has_text, short_group, short_snapshot, open_fits, verify_fits, forget_fits, new_fits, previous_fits, prune_fits, finish_fits, gc_fits, bye_fits, chunk_fits, short_manifest, blob_fits, append_fits, close_fits, size_fits, length-csum}

-- ---- what is put behind an input

pub both_put : (old mid new : List ℕ) (cs ds : List Command) → mid ≡ old ++ input_of cs → new ≡ mid ++ input_of ds → new ≡ old ++ input_of (cs ++ ds)
unfolding input_of
both_put old mid new cs ds first second =
    second ∙ ap (λ m. m ++ input_of ds) first ∙ append_assoc old (input_of cs) (input_of ds) ∙ ap (λ m. old ++ m) (sym (flat_map-append framed cs ds))

-- behind what was put before
pub puts_then : {A E : Type 0} (old mid new : List ℕ) (cs ds : List Command) (result : Result A E) → mid ≡ old ++ input_of cs → Puts mid new ds result → Puts old new (cs ++ ds) result
puts_then old mid new cs ds (Ok x) first second = both_put old mid new cs ds first second
puts_then old mid new cs ds (Err e) first second = tt

-- nothing is put
pub puts_none : (old : List ℕ) → old ≡ old ++ input_of []
unfolding input_of
puts_none old = sym (append-nil old)

-- ---- one more piece, and one more snapshot

range_more : (n : ℕ) → range_with_len 0 (n + 1) ≡ range_with_len 0 n ++ n ∷ []
range_more n =
    sym (map-id (range_with_len 0 (n + 1))) ∙ map-range_with_len_more (λ i. i) 0 n n (omega arith)
    ∙ ap (λ (xs : List ℕ). xs ++ n ∷ []) (map-id (range_with_len 0 n))

one_more : (f : ℕ → List Command) (n : ℕ) → flat_map f (range_with_len 0 (n + 1)) ≡ flat_map f (range_with_len 0 n) ++ f n
one_more f n =
    ap (flat_map f) (range_more n) ∙ flat_map-append f (range_with_len 0 n) (n ∷ [])
    ∙ ap (λ cs. flat_map f (range_with_len 0 n) ++ cs) (append-nil (f n))

pub chunks_none : (k j : ℕ) → first_chunks k j 0 ≡ []
unfolding first_chunks
chunks_none k j = refl

pub chunks_more : (k j n : ℕ) → first_chunks k j (n + 1) ≡ first_chunks k j n ++ chunk_at k j n
unfolding first_chunks
chunks_more k j n = one_more (chunk_at k j) n

pub backups_none : (k : ℕ) → first_backups k 0 ≡ []
unfolding first_backups
backups_none k = refl

pub backups_more : (k n : ℕ) → first_backups k (n + 1) ≡ first_backups k n ++ backup k n
unfolding first_backups
backups_more k n = one_more (backup k) n

-- ---- the commands before BYE

abbrev is_bye : Command → Bool
is_bye Bye = true
is_bye _ = false

record Goes (c : Command) : Type 0 where
  small : Small c
  no_bye : is_bye c ≡ false

abbrev AllGo : List Command → Type 0
AllGo = AllByRecursion Goes

all_go : (cs ds : List Command) → AllGo cs → AllGo ds → AllGo (cs ++ ds)
all_go [] ds h k = k
all_go (c ∷ cs) ds h k = (h.0, all_go cs ds h.1 k)

chunk_goes : (k j i : ℕ) → AllGo (chunk_at k j i)
chunk_goes k j i = by_test (is_sent j i)
  where
    by_test : (b : Bool) → AllGo (if b then chunk_of (piece_at k j i) ∷ [] else [])
    by_test true = (record { small = chunk_fits _ (piece_fits _); no_bye = refl }, tt)
    by_test false = tt

some_chunks_go : (k j from n : ℕ) → AllGo (flat_map (chunk_at k j) (range_with_len from n))
some_chunks_go k j from zero = tt
some_chunks_go k j from (suc n) = all_go (chunk_at k j from) _ (chunk_goes k j from) (some_chunks_go k j (from + 1) n)

chunks_go : (k j : ℕ) → AllGo (chunks k j)
unfolding first_chunks
chunks_go k j = some_chunks_go k j 0 64

previous_goes : (j : ℕ) → AllGo (previous j)
previous_goes j = by_test (eqb j 0)
  where
    by_test : (b : Bool) → AllGo (if b then [] else previous 1)
    by_test true = tt
    by_test false = (record { small = previous_fits; no_bye = refl }, tt)

opening_goes : (k j : ℕ) → k ≤ 63 → j < 4 → AllGo (opening k j)
opening_goes k j h d = (
  record { small = open_fits _ (short_snapshot k j h d); no_bye = refl },
  all_go (previous j) _ (previous_goes j) (record { small = new_fits; no_bye = refl }, tt),
)

closing_goes : (k j : ℕ) → k ≤ 63 → j < 4 → AllGo (closing k j)
closing_goes k j h d =
    let size = size_fits k j in
    let manifest = short_manifest k j (csum_of (pieces k j)) (size_of (pieces k j)) h d (length-csum (pieces k j)) (omega (arith, size)) in
    let last : AllGo (Finish ∷ []) = (record { small = finish_fits; no_bye = refl }, tt) in
    (record { small = append_fits k j; no_bye = refl }, (record { small = close_fits k j; no_bye = refl }, (record { small = blob_fits _ manifest; no_bye = refl }, last)))

backup_goes : (k j : ℕ) → k ≤ 63 → j < 4 → AllGo (backup k j)
unfolding backup
backup_goes k j h d =
    all_go (opening k j ++ chunks k j) (closing k j)
    (all_go (opening k j) (chunks k j) (opening_goes k j h d) (chunks_go k j)) (closing_goes k j h d)

backups_go : (k : ℕ) → k ≤ 63 → AllGo (backups k)
unfolding first_backups
backups_go k h =
    let last = all_go (backup k 3) [] (backup_goes k 3 h (lit< tt)) tt in
    let third = all_go (backup k 2) _ (backup_goes k 2 h (lit< tt)) last in
    let second = all_go (backup k 1) _ (backup_goes k 1 h (lit< tt)) third in
    all_go (backup k 0) _ (backup_goes k 0 h (lit< tt)) second

-- ---- their input

front_is : (c : Command) (rest : List ℕ) → Small c → front (framed c ++ rest) ≡ next c rest
front_is c rest h =
    frames_are_commands (command_text c) rest (has_text c h).1 ∙ ap (λ o. body_front o rest) (commands_again c (has_text c h))

goes_on : (c : Command) (rest : List ℕ) (go_on : List ℕ → List Command) → is_bye c ≡ false → commands_from (next c rest) go_on ≡ c ∷ go_on rest
goes_on Bye rest go_on h = cc
goes_on _ rest go_on h = refl

-- what an input of commands and BYE is
record IsRead (commands : List Command) : Type 0 where
  is_commands : IsCommands (input_of commands)
  frames_are : frames (input_of commands) ≡ commands
  short : length (input_of commands) ≤ 5168 * length commands

bye_is_read : IsRead (Bye ∷ [])
unfolding input_of
bye_is_read =
    let is = front_is Bye [] bye_fits in
    let size : length (command_text Bye ++ []) ≡ length (command_text Bye) + 0 = length-append (command_text Bye) [] in
    record {
      is_commands = subst EndsWell (sym is) (at_bye []);
      frames_are = inputs_go_on (input_of (Bye ∷ [])) ∙ ap (λ f. commands_from f frames) is;
      short = omega (arith, bye_fits.size, size);
    }

all_read : (cs : List Command) → AllGo cs → IsRead (cs ++ Bye ∷ [])
unfolding input_of
all_read [] h = bye_is_read
all_read (c ∷ cs) h =
    let rest = all_read cs h.1 in
    let commands : List Command = cs ++ Bye ∷ [] in
    let others = flat_map framed commands in
    let is = front_is c others h.0.small in
    let size : length (command_text c ++ others) ≡ length (command_text c) + length others = length-append (command_text c) others in
    let short : length others ≤ 5168 * length commands = rest.short in
    record {
      is_commands = subst EndsWell (sym is) (behind c others rest.is_commands);
      frames_are =
          inputs_go_on (framed c ++ others) ∙ ap (λ f. commands_from f frames) is ∙ goes_on c others frames h.0.no_bye
          ∙ ap (λ (more : List Command). c ∷ more) rest.frames_are;
      short = omega (arith, h.0.small.size, size, short);
    }

-- ---- how many they are

few_at : (k j i : ℕ) → length (chunk_at k j i) ≤ 1
few_at k j i = by_test (is_sent j i)
  where
    by_test : (b : Bool) → length (if b then chunk_of (piece_at k j i) ∷ [] else []) ≤ 1
    by_test true = lit≤ tt
    by_test false = lit≤ tt

few_of : (k j from n : ℕ) → length (flat_map (chunk_at k j) (range_with_len from n)) ≤ n
few_of k j from zero = lit≤ tt
few_of k j from (suc n) =
    let split : length (flat_map (chunk_at k j) (range_with_len from (suc n))) ≡ length (chunk_at k j from) + length (flat_map (chunk_at k j) (range_with_len (from + 1) n)) =
    length-append (chunk_at k j from) (flat_map (chunk_at k j) (range_with_len (from + 1) n)) in
    omega (arith, split, few_at k j from, few_of k j (from + 1) n)

few_chunks : (k j : ℕ) → length (chunks k j) ≤ 64
unfolding first_chunks
few_chunks k j = few_of k j 0 64

few_previous : (j : ℕ) → length (previous j) ≤ 1
few_previous j = by_test (eqb j 0)
  where
    by_test : (b : Bool) → length (if b then [] else previous 1) ≤ 1
    by_test true = lit≤ tt
    by_test false = lit≤ tt

few_of_backup : (k j : ℕ) → length (backup k j) ≤ 71
unfolding backup
few_of_backup k j =
    let opens : length (opening k j) ≡ suc (length (previous j) + 1) = ap (λ n. suc n) (length-append (previous j) (NewDynamic archive_name ∷ [])) in
    let both : length (opening k j ++ chunks k j) ≡ length (opening k j) + length (chunks k j) = length-append (opening k j) (chunks k j) in
    let all : length (backup k j) ≡ length (opening k j ++ chunks k j) + 4 = length-append (opening k j ++ chunks k j) (closing k j) in
    subst (λ n. n ≤ 71) (sym (all ∙ ap (λ n. n + 4) (both ∙ ap (λ n. n + length (chunks k j)) opens))) (few_parts (length (previous j)) (length (chunks k j)) (few_previous j) (few_chunks k j))
  where
    few_parts : (m n : ℕ) → m ≤ 1 → n ≤ 64 → suc (m + 1) + n + 4 ≤ 71
    few_parts m n h g = omega arith

few_backups : (k from n : ℕ) → length (flat_map (backup k) (range_with_len from n)) ≤ 71 * n
few_backups k from zero = lit≤ tt
few_backups k from (suc n) =
    let split : length (flat_map (backup k) (range_with_len from (suc n))) ≡ length (backup k from) + length (flat_map (backup k) (range_with_len (from + 1) n)) =
    length-append (backup k from) (flat_map (backup k) (range_with_len (from + 1) n)) in
    omega (arith, split, few_of_backup k from, few_backups k (from + 1) n)

few : (k : ℕ) → length (backups k ++ upkeep k) ≤ 288
unfolding first_backups
few k =
    let all : length (backups k ++ upkeep k) ≡ length (backups k) + 4 = length-append (backups k) (upkeep k) in
    let four : length (backups k) ≤ 284 = few_backups k 0 4 in
    omega (arith, all, four)

-- ---- which session it is

pub first_session : (k : ℕ) → k ≡ 0 → session_of k ≡ collections
unfolding session_of
first_session k none = ap (λ n. if eqb n 0 then collections else backups k ++ upkeep k) none

pub later_session : (k : ℕ) → eqb k 0 ≡ false → session_of k ≡ backups k ++ upkeep k
unfolding session_of
later_session k some = ap (λ b. if b then collections else backups k ++ upkeep k) some

-- ---- the law

upkeep_read : (k : ℕ) → k ≤ 63 → IsRead (backups k ++ upkeep k)
upkeep_read k h =
    let of_day : (j : ℕ) → j < 4 → length (snapshot_of k j) ≤ 29 = λ j d. short_snapshot k j h d in
    let front : List Command = Verify (snapshot_of k 3) ∷ Forget (snapshot_of k 0) ∷ Prune (group_of k) two_last false ∷ [] in
    let first : Goes (Verify (snapshot_of k 3)) = record { small = verify_fits _ (of_day 3 (lit< tt)); no_bye = refl } in
    let second : Goes (Forget (snapshot_of k 0)) = record { small = forget_fits _ (of_day 0 (lit< tt)); no_bye = refl } in
    let third : Goes (Prune (group_of k) two_last false) = record { small = prune_fits _ (short_group k h); no_bye = refl } in
    let goes : AllGo front = (first, (second, (third, tt))) in
    subst IsRead (append_assoc (backups k) front (Bye ∷ [])) (all_read (backups k ++ front) (all_go (backups k) front (backups_go k h) goes))

collections_read : IsRead collections
collections_read =
    let goes : Goes Gc = record { small = gc_fits; no_bye = refl } in
    let all : AllGo (Gc ∷ Gc ∷ Gc ∷ Gc ∷ []) = (goes, (goes, (goes, (goes, tt)))) in
    all_read (Gc ∷ Gc ∷ Gc ∷ Gc ∷ []) all

-- what the input of a session is
pub record IsInput (commands : List Command) : Type 0 where
  pub is_commands : IsCommands (input_of commands)
  pub frames_are : frames (input_of commands) ≡ commands
  pub short : length (input_of commands) < 2 ^ 21

is_input : (commands : List Command) → IsRead commands → length commands ≤ 288 → IsInput commands
is_input commands h n = record { is_commands = h.is_commands; frames_are = h.frames_are; short = omega (arith, h.short) }

pub session_is_input : (k : ℕ) → k ≤ 63 → IsInput (session_of k)
unfolding session_of
session_is_input k h = by_lane (eqb k 0)
  where
    by_lane : (b : Bool) → IsInput (if b then collections else backups k ++ upkeep k)
    by_lane true = is_input collections collections_read (lit≤ tt)
    by_lane false = is_input (backups k ++ upkeep k) (upkeep_read k h) (few k)
