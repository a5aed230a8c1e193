-- Steps that give short names leave short names.
use Rattle.std.proofs.Common.{◌≡◌, ◌≢◌, ◌<◌, ◌≤◌, inl, inr, ℕ, List, [], ◌∷◌, Bool, true, false, cond, leb, T, Option, Some, None, length, arith, refl, sym, ◌∙◌, subst, string_bytes, bytes_eq}
use Rattle.std.specs.List.{filter}
use Rattle.std.proofs.Math.Facts.{leb_yes}
use Rattle.std.specs.FinMap.{get, empty, get-empty, remove}
use Rattle.std.specs.Ordering.{nat_cmp}
use Rattle.std.specs.Cmp.Lexicographic.{slice_cmp}
use Rattle.disk_trait.specs.Files.{Files, HasShortNames, renamed, SameBut}
use Rattle.disk_trait.specs.Disk.{MayMove, MayGo}
use Rattle.disk_trait.specs.Laws.{get_placed, placed_other}
use Rattle.disk_trait.specs.Replay.{done, played, stepped, leaves, until, gives_short, all_short, images_of}
use Rattle.disk_trait.specs.Timeline.{both, first, second}
use Rattle.disk_trait.specs.declared.step_log.Step.{Step}
use Rattle.disk_trait.specs.declared.step_log.Step.TheVariants.{Put, Rename, Remove, Sync}
use Rattle.disk_trait.specs.declared.step_log.LoggedStep.{LoggedStep}

longer : (q name : List ℕ) → 255 < length q → length name ≤ 255 → q ≢ name
longer q name long short e = let le : length q ≤ 255 = subst (λ n. length n ≤ 255) (sym e) short in omega arith

none_or : (b : Bool) (x : Option (List ℕ)) → x ≡ None → cond b None x ≡ None
none_or true x e = refl
none_or false x e = e

short_but : (name : List ℕ) (b c : Files) → length name ≤ 255 → SameBut name b c → HasShortNames b → HasShortNames c
short_but name b c le but short q long = but q (longer q name long le) ∙ short q long

short_remove : (b : Files) (name : List ℕ) → HasShortNames b → HasShortNames (remove b name)
short_remove b name short q long = get_placed b name None q ∙ none_or (bytes_eq q name) (get b q) (short q long)

short_rename : (b : Files) (from to : List ℕ) → length to ≤ 255 → HasShortNames b → HasShortNames (renamed b from to)
short_rename b from to le short = short_but to (remove b from) (renamed b from to) le (placed_other (remove b from) to (get b from)) (short_remove b from short)

pub short_done : (step : Step) (files : Files) → T (gives_short step) → HasShortNames files → HasShortNames (done files step)
short_done (Put name bytes) files is short = short_but (string_bytes name) files _ (leb_yes is) (placed_other files (string_bytes name) (Some bytes.items)) short
short_done (Rename from to) files is short = short_rename files (string_bytes from) (string_bytes to) (leb_yes is) short
short_done (Remove name) files is short = short_remove files (string_bytes name) short
short_done Sync files is short = short

pub short_stepped : (step : Step) (files : Files) (P : Files → Type 0) → T (gives_short step) → HasShortNames files → ((b : Files) → P b → HasShortNames b) → (c : Files) → stepped step files P c → HasShortNames c
short_stepped (Put name bytes) files P is read short c x = short_but (string_bytes name) x.0 c (leb_yes is) x.2 (short x.0 x.1)
short_stepped (Rename from to) files P is read short c x = moved x.0 c (short x.0 x.1) x.2
  where
    moved : (b c : Files) → HasShortNames b → MayMove (string_bytes from) (string_bytes to) b c → HasShortNames c
    moved b c was (inl e) = subst HasShortNames (sym e) was
    moved b c was (inr e) = subst HasShortNames (sym e) (short_rename b (string_bytes from) (string_bytes to) (leb_yes is) was)
short_stepped (Remove name) files P is read short c x = gone x.0 c (short x.0 x.1) x.2
  where
    gone : (b c : Files) → HasShortNames b → MayGo (string_bytes name) b c → HasShortNames c
    gone b c was (inl e) = subst HasShortNames (sym e) was
    gone b c was (inr e) = subst HasShortNames (sym e) (short_remove b (string_bytes name) was)
short_stepped Sync files P is read short c x = subst HasShortNames (sym x) read

pub short_played : (es : List LoggedStep) (files : Files) → all_short es → HasShortNames files → HasShortNames (played files es)
short_played [] files is short = short
short_played (e ∷ es) files is short = short_played es (done files e.step) (second _ _ is) (short_done e.step files (first _ _ is) short)

pub short_leaves : (es : List LoggedStep) (files : Files) (P : Files → Type 0) → all_short es → HasShortNames files → ((b : Files) → P b → HasShortNames b) → (c : Files) → leaves es files P c → HasShortNames c
short_leaves [] files P is read short c x = short c x
short_leaves (e ∷ es) files P is read short c x =
    short_leaves es (done files e.step) (stepped e.step files P) (second _ _ is) (short_done e.step files (first _ _ is) read) (short_stepped e.step files P (first _ _ is) read short) c x

short_filtered : (p : LoggedStep → Bool) (es : List LoggedStep) → all_short es → all_short (filter p es)
short_filtered p [] is = tt
short_filtered p (e ∷ es) is =
    elim (p e) as (λ b. all_short (cond b (e ∷ filter p es) (filter p es))) [
      | true ↦ both _ _ (first _ _ is) (short_filtered p es (second _ _ is))
      | false ↦ short_filtered p es (second _ _ is)
    ]

short_empty : HasShortNames empty
short_empty q long = get-empty (slice_cmp nat_cmp) q

-- as it reads
pub short_read : (log : List LoggedStep) → all_short log → HasShortNames (played empty log)
short_read log is = short_played log empty is short_empty

-- in each image
pub short_left : (now : ℕ) (log : List LoggedStep) → all_short log → (t : ℕ) (c : Files) → images_of now log t c → HasShortNames c
short_left now log is t c i = short_leaves (until t log) empty (λ b. b ≡ empty) (short_filtered (λ e. leb e.at t) log is) short_empty (λ b e. subst HasShortNames (sym e) short_empty) c i.2
