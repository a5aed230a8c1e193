-- Which snapshots a SYNC pulls.
use Rattle.std.proofs.Common.{◌≡◌, ℕ, List, [], ◌∷◌, length, Option, None, Some, refl, sym, ap, subst, ◌∙◌, arith}
use Rattle.std.specs.Prelude.{All, ◌-◌, filter, slice_get}
use Rattle.std.specs.List.{last_or}
use Rattle.std.proofs.lemmas.List.Elements.{All-filter, All-head, All-same, All-tail}
use Rattle.wire_commands.specs.declared.reply.Reply.{Reply}
use Rattle.wire_commands.specs.declared.reply.Reply.TheVariants.{Keys}
use Rattle.store_history.specs.Pulling.{asks, comparing, compared, is_key, is_later, newest_in, next_snapshot, sought}
use Rattle.pull_steps.specs.States.{IsShort}
use Rattle.pull_steps.proofs.Texts.{keys_short}

nth_last : (x : List ℕ) (xs : List (List ℕ)) → slice_get (x ∷ xs) (length xs) ≡ last_or (Some x) xs
nth_last x [] = refl
nth_last x (y ∷ ys) = nth_last y ys

-- what stands at the last place
pub last_got : (xs : List (List ℕ)) → slice_get xs (length xs - 1) ≡ last_or None xs
last_got [] = refl
last_got (x ∷ xs) =
    let last : length (x ∷ xs) - 1 ≡ length xs = omega arith in
    ap (slice_get (x ∷ xs)) last ∙ nth_last x xs

pub sought_keys : (group : List ℕ) (reply : Reply) (snapshots kept : List (List ℕ)) → reply ≡ Keys snapshots → kept ≡ filter is_key snapshots
    → asks (comparing group kept) ≡ sought group reply
unfolding sought
sought_keys group reply snapshots kept is so = ap (λ xs. asks (comparing group xs)) so ∙ sym (ap (sought group) is)

pub kept_short : (snapshots kept : List (List ℕ)) → kept ≡ filter is_key snapshots → All IsShort kept
kept_short snapshots kept so = All-same IsShort kept (filter is_key snapshots) so (keys_short snapshots)

pub compared_keys : (remote here room kept : List (List ℕ)) (newest : Option ℕ) (reply : Reply) → reply ≡ Keys here → newest ≡ newest_in here
    → room ≡ [] → kept ≡ filter (is_later newest) remote → next_snapshot room kept ≡ compared remote reply
unfolding compared
compared_keys remote here room kept newest reply is told empty so =
    ap (λ xs. next_snapshot xs kept) empty ∙ ap (next_snapshot []) (so ∙ ap (λ n. filter (is_later n) remote) told) ∙ sym (ap (compared remote) is)

pub later_short : (newest : Option ℕ) (remote kept : List (List ℕ)) → kept ≡ filter (is_later newest) remote → All IsShort remote → All IsShort kept
later_short newest remote kept so short = All-same IsShort kept (filter (is_later newest) remote) so (All-filter (is_later newest) IsShort remote short)

pub first_short : (xs : List (List ℕ)) (x : List ℕ) (rest : List (List ℕ)) → xs ≡ x ∷ rest → All IsShort xs → IsShort x × All IsShort rest
first_short xs x rest is short =
    let all = subst (All IsShort) is short in
    (All-head IsShort x rest all, All-tail IsShort x rest all)
