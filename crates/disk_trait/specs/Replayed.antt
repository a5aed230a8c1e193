-- Laws of what a list of steps has made.
use Rattle.std.proofs.Common.{◌≡◌, ◌<◌, ◌≤◌, ◌+◌, ◌-◌, ℕ, List, [], ◌∷◌, ◌++◌, cond, Some, None, length, take, get_or, arith, refl, ◌∙◌, ap, string_bytes, String, Vec}
use Rattle.std.specs.declared.alloc.Global.{Global}
use Rattle.std.specs.Str.{bytes_eq}
use Rattle.std.proofs.lemmas.List.{take_more}
use Rattle.std.specs.FinMap.{get, empty, get-empty}
use Rattle.std.specs.Ordering.{nat_cmp}
use Rattle.std.specs.Cmp.Lexicographic.{slice_cmp}
use Rattle.disk_trait.specs.Files.{Files, placed, renamed}
use Rattle.disk_trait.specs.Laws.{get_placed}
use Rattle.disk_trait.specs.Replay.{done, played}
use Rattle.disk_trait.specs.declared.step_log.Step.TheVariants.{Put, Rename, Remove}
use Rattle.disk_trait.specs.declared.step_log.LoggedStep.{LoggedStep}

pub get_renamed : (files : Files) (from to q : List ℕ) → get (renamed files from to) q ≡ cond (bytes_eq q to) (get files from) (cond (bytes_eq q from) None (get files q))
get_renamed files from to q = get_placed (placed files from None) to (get files from) q ∙ ap (cond (bytes_eq q to) (get files from)) (get_placed files from None q)

pub get_put : (files : Files) (name : String Global) (bytes : Vec ℕ Global) (q : List ℕ) → get (done files (Put name bytes)) q ≡ cond (bytes_eq q (string_bytes name)) (Some bytes.items) (get files q)
get_put files name bytes q = get_placed files (string_bytes name) (Some bytes.items) q

pub get_rename : (files : Files) (from to : String Global) (q : List ℕ) → get (done files (Rename from to)) q ≡ cond (bytes_eq q (string_bytes to)) (get files (string_bytes from)) (cond (bytes_eq q (string_bytes from)) None (get files q))
get_rename files from to q = get_renamed files (string_bytes from) (string_bytes to) q

pub get_remove : (files : Files) (name : String Global) (q : List ℕ) → get (done files (Remove name)) q ≡ cond (bytes_eq q (string_bytes name)) None (get files q)
get_remove files name q = get_placed files (string_bytes name) None q

pub ruleset steps = (get_put, get_rename, get_remove)

pub played_push : (es : List LoggedStep) (files : Files) (e : LoggedStep) → played files (es ++ e ∷ []) ≡ done (played files es) e.step
played_push [] files e = refl
played_push (x ∷ es) files e = played_push es (done files x.step) e

pub played_more : (log : List LoggedStep) (k : ℕ) (d : LoggedStep) → k < length log → played empty (take (k + 1) log) ≡ done (played empty (take k log)) (get_or log k d).step
played_more log k d lt = ap (played empty) (take_more log k d lt) ∙ played_push (take k log) empty (get_or log k d)

pub played_before : (log : List LoggedStep) (k : ℕ) (q : List ℕ) (d : LoggedStep) → 0 < k → k ≤ length log → get (played empty (take k log)) q ≡ get (done (played empty (take (k - 1) log)) (get_or log (k - 1) d).step) q
played_before log k q d some le =
    let whole : k ≡ k - 1 + 1 = omega arith in
    ap (λ n. get (played empty (take n log)) q) whole ∙ ap (λ m. get m q) (played_more log (k - 1) d (omega arith))

pub get_nothing : (log : List LoggedStep) (k : ℕ) (q : List ℕ) → k ≤ 0 → get (played empty (take k log)) q ≡ None
get_nothing log k q le = let e : k ≡ 0 = omega arith in ap (λ n. get (played empty (take n log)) q) e ∙ get-empty (slice_cmp nat_cmp) q
