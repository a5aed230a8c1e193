use Rattle.std.proofs.Common.{◌≡◌, ◌≤◌, ◌∙◌, ◌++◌, ◌∷◌, [], ℕ, List, length, map, take, sym, ap, subst, rules, arith}
use Rattle.std.specs.List.{All}
use Rattle.std.proofs.lemmas.List.{take_all, take_more, map_push, length_push}
use Rattle.std.proofs.lemmas.List.Elements.{All-push}
use Rattle.store_types.specs.Names.{IsKey, key_text}
use Rattle.snapshot_files.proofs.PathLengths.{key_short}
use Rattle.core_remote.specs.RemoteActs.{IsShort}
use Rattle.core_remote.proofs.reading.texts_of.Goals as goal

-- the first 4,096 were printed
pub returns-then-len-eq-GROUP_LIMIT-clause-value : goal.returns-then-len-eq-GROUP_LIMIT-clause-value
returns-then-len-eq-GROUP_LIMIT-clause-value c =
    let inv = c.loop-key.invariant in
    let enough : c.loop-key.key-index ≡ 4096 = omega arith in
    c.from_vec.ensures ∙ inv.value ∙ ap (λ n. map key_text (take n c.args.keys.now)) enough

pub returns-clause-value : goal.returns-clause-value
returns-clause-value c =
    let xs = c.args.keys.now in
    let inv = c.loop-key.invariant in
    let past : length xs ≤ c.loop-key.key-index = omega arith in
    c.from_vec-2.ensures ∙ inv.value ∙ ap (map key_text) (take_all c.loop-key.key-index xs past ∙ sym (take_all 4096 xs (omega arith)))

pub loop-key-preserved : goal.loop-key-preserved
loop-key-preserved c =
    let xs = c.args.keys.now in
    let i = c.loop-key.key-index in
    let x = c.key-item.result in
    let old = c.loop-key.texts.items in
    let text = c.from_vec-in-loop-key.result in
    let inv = c.loop-key.invariant in
    let key : IsKey x = search rules in
    let printed : text ≡ key_text x = search rules in
    let pushed = c.in_ok-push.ensures.items in
    let more = take_more xs i x (omega arith) ∙ ap (λ y. take i xs ++ y ∷ []) (sym c.key-item.is) in
    let short : IsShort text = omega (arith, ap length printed, key_short x key) in
    record {
      value =
          pushed ∙ ap (λ l. l ++ text ∷ []) inv.value ∙ ap (λ t. map key_text (take i xs) ++ t ∷ []) printed
          ∙ sym (ap (map key_text) more ∙ map_push key_text (take i xs) x);
      count = omega (arith, ap length pushed, length_push old text, inv.count);
      few = omega (arith, ap length pushed, length_push old text, inv.few);
      short = subst (λ (l : List (List ℕ)). All IsShort l) (sym pushed) (All-push IsShort old text inv.short short);
    }
