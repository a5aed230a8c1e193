-- What a crash leaves is an image.
use Rattle.std.proofs.Common.{◌≡◌, ◌≢◌, ◌<◌, ◌≤◌, ◌+◌, ◌-◌, ◌^◌, inl, inr, ℕ, zero, suc, List, [], ◌∷◌, ◌++◌, true, false, not, T, Some, length, take, drop, get_or, arith, refl, sym, ◌∙◌, ap, subst, string_bytes, ◌/◌}
use Rattle.std.specs.List.{list_all, suffix_len, before_last, after_last}
use Rattle.std.proofs.lemmas.List.{take_more, get_or-drop, length-drop, take-append-drop}
use Rattle.std.proofs.lemmas.List.Sums.{suffix_len_is}
use Rattle.std.specs.FinMap.{empty}
use Rattle.disk_trait.specs.Files.{Files}
use Rattle.disk_trait.specs.Laws.{placed_other}
use Rattle.disk_trait.specs.Replay.{done, played, stepped, leaves, all_by, all_short, images_of}
use Rattle.disk_trait.specs.Replayed.{played_push}
use Rattle.disk_trait.specs.Timeline.{both, first, second, all_by_push, all_by_later, until_all, leaves_push, leaves_played}
use Rattle.disk_trait.proofs.Remaking.{short_push}
use Rattle.disk_trait.specs.CrashImage.{syncs, is_sync, synced, torn, torn_by, left_since}
use Rattle.disk_trait.specs.Remade.{Remakes, IsLeft, left_by}
use Rattle.disk_trait.specs.declared.step_log.Step.{Step}
use Rattle.disk_trait.specs.declared.step_log.Step.TheVariants.{Put, Rename, Remove, Sync}
use Rattle.disk_trait.specs.declared.step_log.LoggedStep.{LoggedStep}

abbrev unsynced : List LoggedStep → Type 0
unsynced es = T (list_all (λ e. not (is_sync e)) es)

-- steps that may not have been
kept_leaves : (es : List LoggedStep) (files : Files) (P : Files → Type 0) (c : Files) → unsynced es → P c → leaves es files P c
kept_leaves [] files P c none p = p
kept_leaves (e ∷ es) files P c none p = kept_leaves es (done files e.step) (stepped e.step files P) c (second _ _ none) (kept e.step (first _ _ none))
  where
    kept : (s : Step) → T (not (syncs s)) → stepped s files P c
    kept (Put name bytes) not_sync = (c, p, λ q ne. refl)
    kept (Rename from to) not_sync = (c, p, inl refl)
    kept (Remove name) not_sync = (c, p, inl refl)
    kept Sync not_sync = absurd not_sync

torn_leaves : (es : List LoggedStep) (files : Files) (P : Files → Type 0) (c : Files) → unsynced es → P c → leaves es files P (torn c es)
torn_leaves [] files P c none p = p
torn_leaves (e ∷ es) files P c none p = torn_leaves es (done files e.step) (stepped e.step files P) (torn_by c e.step) (second _ _ none) (cut e.step (first _ _ none))
  where
    cut : (s : Step) → T (not (syncs s)) → stepped s files P (torn_by c s)
    cut (Put name bytes) not_sync = (c, p, placed_other c (string_bytes name) (Some (take (length bytes.items / 2) bytes.items)))
    cut (Rename from to) not_sync = (c, p, inr refl)
    cut (Remove name) not_sync = (c, p, inl refl)
    cut Sync not_sync = absurd not_sync

leaves_both : (a b : List LoggedStep) (files : Files) (P : Files → Type 0) (c : Files) → leaves b (played files a) (leaves a files P) c → leaves (a ++ b) files P c
leaves_both [] b files P c h = h
leaves_both (e ∷ a) b files P c h = leaves_both a b (done files e.step) (stepped e.step files P) c h

played_both : (a b : List LoggedStep) (files : Files) → played files (a ++ b) ≡ played (played files a) b
played_both [] b files = refl
played_both (e ∷ a) b files = played_both a b (done files e.step)

since_plain : (choice : ℕ) (files : Files) (es : List LoggedStep) → choice ≢ 0 → choice ≢ 2 → left_since choice files es ≡ played files es
since_plain zero files es not_0 not_2 = absurd (not_0 refl)
since_plain (suc zero) files es not_0 not_2 = refl
since_plain (suc (suc zero)) files es not_0 not_2 = absurd (not_2 refl)
since_plain (suc (suc (suc n))) files es not_0 not_2 = refl

short_both : (a b : List LoggedStep) → all_short (a ++ b) → all_short a × all_short b
short_both [] b h = (tt, h)
short_both (e ∷ a) b h = let r = short_both a b (second _ _ h) in (both _ _ (first _ _ h) r.0, r.1)

none_in : (es : List LoggedStep) → ((k : ℕ) (d : LoggedStep) → k < length es → is_sync (get_or es k d) ≡ false) → unsynced es
none_in [] h = tt
none_in (e ∷ es) h = both _ _ (subst (λ b. T (not b)) (sym (h 0 e (omega arith))) tt) (none_in es (λ k d lt. h (suc k) d (omega arith)))

a_sync : (s : Step) → syncs s ≡ true → s ≡ Sync
a_sync (Put name bytes) e = cc
a_sync (Rename from to) e = cc
a_sync (Remove name) e = cc
a_sync Sync e = refl

-- the image that a choice leaves, from that of the last sync on
since_leaves : (choice : ℕ) (es : List LoggedStep) (files : Files) (P : Files → Type 0) → unsynced es → P files → leaves es files P (left_since choice files es)
since_leaves zero es files P none p = kept_leaves es files P files none p
since_leaves (suc zero) es files P none p = leaves_played es files P p
since_leaves (suc (suc zero)) es files P none p = torn_leaves es files P files none p
since_leaves (suc (suc (suc n))) es files P none p = leaves_played es files P p

any_step : LoggedStep
any_step = record { at = 0; step = Sync }

module _ (log : List LoggedStep) (n : ℕ) (within : n ≤ length log) (since : (k : ℕ) (d : LoggedStep) → n ≤ k → k < length log → is_sync (get_or log k d) ≡ false)
    (last : (d : LoggedStep) → 0 < n → is_sync (get_or log (n - 1) d) ≡ true) where
  rest_unsynced : unsynced (drop n log)
  rest_unsynced = none_in (drop n log) (λ k d lt. ap is_sync (get_or-drop n log k d) ∙ since (n + k) d (omega arith) (omega (arith, length-drop n log)))

  suffix_is : suffix_len (λ e. not (is_sync e)) log ≡ length log - n
  suffix_is = suffix_len_is (λ e. not (is_sync e)) log n any_step within (λ k le lt. ap not (since k any_step le lt)) (λ some. ap not (last any_step some))

  after_is : after_last is_sync log ≡ drop n log
  after_is = let e : length log - suffix_len (λ e. not (is_sync e)) log ≡ n = omega (arith, suffix_is) in ap (λ k. drop k log) e

  before_is : before_last is_sync log ≡ take (n - 1) log
  before_is = let e : length log - suffix_len (λ e. not (is_sync e)) log - 1 ≡ n - 1 = omega (arith, suffix_is) in ap (λ k. take k log) e

  synced_is : synced log ≡ played empty (take n log)
  synced_is = ap (played empty) before_is ∙ whole n within last
    where
      whole : (m : ℕ) → m ≤ length log → ((d : LoggedStep) → 0 < m → is_sync (get_or log (m - 1) d) ≡ true) → played empty (take (m - 1) log) ≡ played empty (take m log)
      whole zero le sync = refl
      whole (suc k) le sync =
          let lt : k < length log = omega arith in let e : suc k - 1 ≡ k = omega arith in let f : suc k ≡ k + 1 = omega arith in
          let was : is_sync (get_or log k any_step) ≡ true = subst (λ i. is_sync (get_or log i any_step) ≡ true) e (sync any_step (omega arith)) in
          ap (λ i. played empty (take i log)) e
          ∙ sym (ap (λ i. played empty (take i log)) f ∙ ap (played empty) (take_more log k any_step lt) ∙ played_push (take k log) empty (get_or log k any_step)
          ∙ ap (done (played empty (take k log))) (a_sync (get_or log k any_step).step was))

  module _ (choice : ℕ) (one two left : List LoggedStep) (first_part : Remakes [] one (take n log) (λ files. played files (take n log)))
      (second_part : Remakes one two (drop n log) (λ files. left_since choice files (drop n log))) (is : left ≡ two ++ record { at = 0; step = Sync } ∷ []) where
    reads_since : played empty left ≡ left_since choice (played empty (take n log)) (drop n log)
    reads_since = ap (played empty) is ∙ played_push two empty (record { at = 0; step = Sync }) ∙ second_part.plays empty
        ∙ ap (λ files. left_since choice files (drop n log)) (first_part.plays empty)

    is_image : left_by log (played empty left)
    is_image = subst (left_by log) (sym reads_since) (subst (λ l. left_by l (left_since choice (played empty (take n log)) (drop n log))) (take-append-drop n log)
        (leaves_both (take n log) (drop n log) empty (λ b. b ≡ empty) _
        (since_leaves choice (drop n log) (played empty (take n log)) (leaves (take n log) empty (λ b. b ≡ empty)) rest_unsynced (leaves_played (take n log) empty (λ b. b ≡ empty) refl))))

    is_left : IsLeft choice log left
    is_left = record {
      reads = reads_since ∙ ap (λ files. left_since choice files (drop n log)) (sym synced_is) ∙ ap (left_since choice (synced log)) (sym after_is);
      plain = λ not_0 not_2. reads_since ∙ since_plain choice (played empty (take n log)) (drop n log) not_0 not_2
          ∙ sym (played_both (take n log) (drop n log) empty) ∙ ap (played empty) (take-append-drop n log);
      image = is_image;
      firm = λ c h. let two_leaves : left_by (two ++ record { at = 0; step = Sync } ∷ []) c = subst (λ l. left_by l c) is h in
          leaves_push two empty (λ b. b ≡ empty) (record { at = 0; step = Sync }) c two_leaves ∙ sym (ap (played empty) is ∙ played_push two empty (record { at = 0; step = Sync }));
      early = subst (all_by 0) (sym is) (all_by_push 0 two (record { at = 0; step = Sync }) (omega arith) (second_part.early (first_part.early tt)));
      short = λ all. let parts = short_both (take n log) (drop n log) (subst all_short (sym (take-append-drop n log)) all) in
          subst all_short (sym is) (short_push two (record { at = 0; step = Sync }) tt (second_part.short parts.1 (first_part.short parts.0 tt)));
    }

  pub is_left_of : (choice : ℕ) (start a b one two left : List LoggedStep) → start ≡ [] → a ≡ take n log → b ≡ drop n log → Remakes start one a (λ files. played files a)
      → Remakes one two b (λ files. left_since choice files b) → left ≡ two ++ record { at = 0; step = Sync } ∷ [] → IsLeft choice log left
  is_left_of choice start a b one two left empty_start front back first_part second_part is =
      is_left choice one two left
      (subst (λ l. Remakes [] one l (λ files. played files l)) front (subst (λ s. Remakes s one a (λ files. played files a)) empty_start first_part))
      (subst (λ l. Remakes one two l (λ files. left_since choice files l)) back second_part) is

pub image_now : (now : ℕ) (log : List LoggedStep) (c : Files) → all_by now log → now < 2 ^ 64 - 1 → left_by log c → images_of now log now c
image_now now log c by below h = (omega arith, below, subst (λ l. left_by l c) (sym (until_all now log by)) h)

-- an image of steps that were all done before the first moment
pub image_of_early : (left : List LoggedStep) (t : ℕ) (c : Files) → all_by 0 left → images_of 0 left t c → left_by left c
image_of_early left t c early i = subst (λ l. left_by l c) (until_all t left (all_by_later 0 t left (omega arith) early)) i.2
