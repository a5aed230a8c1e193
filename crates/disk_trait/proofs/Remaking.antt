-- How steps are made from the steps of another disk, one after another.
use Rattle.std.proofs.Common.{◌≡◌, ◌<◌, ◌+◌, ℕ, List, [], ◌∷◌, ◌++◌, T, Some, None, length, take, get_or, arith, refl, sym, ◌∙◌, ap, subst}
use Rattle.std.proofs.lemmas.List.{take_more}
use Rattle.disk_trait.specs.Files.{Files}
use Rattle.disk_trait.specs.Replay.{done, played, all_short, gives_short}
use Rattle.disk_trait.specs.Replayed.{played_push}
use Rattle.disk_trait.specs.Timeline.{both, first, second, all_by_push}
use Rattle.disk_trait.specs.CrashImage.{torn, torn_by}
use Rattle.disk_trait.specs.Remade.{Remakes, IsCopy, IsTorn}
use Rattle.disk_trait.specs.declared.step_log.Step.{Step}
use Rattle.disk_trait.specs.declared.step_log.LoggedStep.{LoggedStep}

torn_push : (es : List LoggedStep) (files : Files) (e : LoggedStep) → torn files (es ++ e ∷ []) ≡ torn_by (torn files es) e.step
torn_push [] files e = refl
torn_push (x ∷ es) files e = torn_push es (torn_by files x.step) e

pub short_push : (log : List LoggedStep) (e : LoggedStep) → T (gives_short e.step) → all_short log → all_short (log ++ e ∷ [])
short_push [] e one h = both _ _ one tt
short_push (x ∷ log) e one h = both _ _ (first _ _ h) (short_push log e one (second _ _ h))

short_front : (log : List LoggedStep) (e : LoggedStep) → all_short (log ++ e ∷ []) → all_short log
short_front [] e h = tt
short_front (x ∷ log) e h = both _ _ (first _ _ h) (short_front log e (second _ _ h))

short_last : (log : List LoggedStep) (e : LoggedStep) → all_short (log ++ e ∷ []) → T (gives_short e.step)
short_last [] e h = first _ _ h
short_last (x ∷ log) e h = short_last log e (second _ _ h)

pub copy_more : (old new log : List LoggedStep) (e : LoggedStep) (s : Step) → Remakes old new log (λ files. played files log) → IsCopy e.step s
    → Remakes old (new ++ record { at = 0; step = s } ∷ []) (log ++ e ∷ []) (λ files. played files (log ++ e ∷ []))
copy_more old new log e s so copy = record {
  plays = λ files. played_push new files (record { at = 0; step = s }) ∙ copy.does (played files new) ∙ ap (λ m. done m e.step) (so.plays files) ∙ sym (played_push log (played files old) e);
  early = λ h. all_by_push 0 new (record { at = 0; step = s }) (omega arith) (so.early h);
  short = λ all h. short_push new (record { at = 0; step = s }) (copy.short (short_last log e all)) (so.short (short_front log e all) h);
}

pub torn_more : (old new log : List LoggedStep) (e : LoggedStep) (s : Step) → Remakes old new log (λ files. torn files log) → IsTorn e.step (Some s)
    → Remakes old (new ++ record { at = 0; step = s } ∷ []) (log ++ e ∷ []) (λ files. torn files (log ++ e ∷ []))
torn_more old new log e s so copy = record {
  plays = λ files. played_push new files (record { at = 0; step = s }) ∙ copy.0 (played files new) ∙ ap (λ m. torn_by m e.step) (so.plays files) ∙ sym (torn_push log (played files old) e);
  early = λ h. all_by_push 0 new (record { at = 0; step = s }) (omega arith) (so.early h);
  short = λ all h. short_push new (record { at = 0; step = s }) (copy.1 (short_last log e all)) (so.short (short_front log e all) h);
}

pub torn_none : (old new log : List LoggedStep) (e : LoggedStep) → Remakes old new log (λ files. torn files log) → IsTorn e.step None
    → Remakes old new (log ++ e ∷ []) (λ files. torn files (log ++ e ∷ []))
torn_none old new log e so none = record {
  plays = λ files. so.plays files ∙ sym (torn_push log (played files old) e ∙ none (torn (played files old) log));
  early = so.early;
  short = λ all h. so.short (short_front log e all) h;
}

-- one step further along a log
module _ (old mid log : List LoggedStep) (i : ℕ) (e : LoggedStep) (lt : i < length log) (is : e ≡ get_or log i e) where
  front : take (i + 1) log ≡ take i log ++ e ∷ []
  front = take_more log i e lt ∙ ap (λ x. take i log ++ x ∷ []) (sym is)

  pub copy_along : (new : List LoggedStep) (s : Step) → Remakes old mid (take i log) (λ files. played files (take i log)) → IsCopy e.step s → new ≡ mid ++ record { at = 0; step = s } ∷ []
      → Remakes old new (take (i + 1) log) (λ files. played files (take (i + 1) log))
  copy_along new s so copy push =
      subst (λ n. Remakes old n (take (i + 1) log) (λ files. played files (take (i + 1) log))) (sym push)
      (subst (λ l. Remakes old (mid ++ record { at = 0; step = s } ∷ []) l (λ files. played files l)) (sym front) (copy_more old mid (take i log) e s so copy))

  pub torn_along : (new : List LoggedStep) (s : Step) → Remakes old mid (take i log) (λ files. torn files (take i log)) → IsTorn e.step (Some s) → new ≡ mid ++ record { at = 0; step = s } ∷ []
      → Remakes old new (take (i + 1) log) (λ files. torn files (take (i + 1) log))
  torn_along new s so copy push =
      subst (λ n. Remakes old n (take (i + 1) log) (λ files. torn files (take (i + 1) log))) (sym push)
      (subst (λ l. Remakes old (mid ++ record { at = 0; step = s } ∷ []) l (λ files. torn files l)) (sym front) (torn_more old mid (take i log) e s so copy))

  pub none_along : Remakes old mid (take i log) (λ files. torn files (take i log)) → IsTorn e.step None → Remakes old mid (take (i + 1) log) (λ files. torn files (take (i + 1) log))
  none_along so none = subst (λ l. Remakes old mid l (λ files. torn files l)) (sym front) (torn_none old mid (take i log) e so none)
