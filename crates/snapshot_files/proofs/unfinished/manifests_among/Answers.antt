use Rattle.std.proofs.Common.{◌≡◌, ◌∙◌, ◌+◌, ◌++◌, ◌∷◌, [], List, ℕ, eqb, map, take, string_bytes, true, false, arith, sym, ap, subst, rules}
use Rattle.std.specs.List.{ends_with}
use Rattle.std.proofs.lemmas.List.{take_more, map_push, take_all}
use Rattle.std.proofs.lemmas.Map.Text.{btree_set_updates_text}
use Rattle.snapshot_files.proofs.Names.{IsAmong, ending, ends_otherwise, among_none, among_more, among_other, has_manifests}
use Rattle.snapshot_files.proofs.unfinished.manifests_among.Goals as goal
use Rattle.snapshot_files.proofs.unfinished.manifests_among.Goals.{then-ends_with+in_ok-clone+in_ok-insert, else-ends_with}

pub loop-name-init : goal.loop-name-init
loop-name-init c = among_none c.new-manifests.result (search rules)

pub loop-name-preserved : goal.loop-name-preserved
loop-name-preserved c =
    let i = c.loop-name.name-index in
    let xs = c.args.names.now in
    let x = c.name-item.result in
    let old = c.loop-name.manifests in
    let before : List (List ℕ) = map string_bytes (take i xs) in
    let more = take_more xs i x (omega arith) ∙ ap (λ y. take i xs ++ y ∷ []) (sym c.name-item.is) in
    let names : map string_bytes (take (i + 1) xs) ≡ before ++ string_bytes x ∷ [] = ap (map string_bytes) more ∙ map_push string_bytes (take i xs) x in
    elim c.if-ends_with.branch [
      | then-ends_with+in_ok-clone+in_ok-insert w ↦ (
          let copy : string_bytes w.in_ok-clone.field-0 ≡ string_bytes x = search rules in
          let now = w.insert.new.self in
          subst (λ m. IsAmong m (map string_bytes (take (i + 1) xs))) (sym w.manifests-is)
          (subst (IsAmong now) (ap (λ n. before ++ n ∷ []) copy ∙ sym names)
          (among_more old now before (string_bytes w.in_ok-clone.field-0)
          (btree_set_updates_text (string_bytes w.in_ok-clone.field-0) old now true w.in_ok-insert.ensures.updates) c.loop-name.invariant)))
      | else-ends_with w ↦ (
          let other : false ≡ ends_with eqb (string_bytes x) ending = search rules in
          subst (λ m. IsAmong m (map string_bytes (take (i + 1) xs))) (sym w.manifests-is)
          (subst (IsAmong old) (sym names) (among_other old before (string_bytes x) (ends_otherwise (string_bytes x) other) c.loop-name.invariant)))
    ]

pub returns : goal.returns
returns c =
    let xs = c.args.names.now in
    let all : take c.loop-name.name-index xs ≡ xs = take_all _ _ c.loop-name-test.false in
    λ read are.
    has_manifests c.loop-name.manifests (map string_bytes xs) read are (subst (λ ys. IsAmong c.loop-name.manifests (map string_bytes ys)) all c.loop-name.invariant)
