use Rattle.std.proofs.Common.{◌≡◌, ◌∙◌, ◌+◌, ◌++◌, ◌∷◌, [], List, ℕ, map, take, string_bytes, arith, refl, sym, ap, subst, rules}
use Rattle.std.proofs.lemmas.List.{take_more, map_push, take_all}
use Rattle.disk_trait.specs.Runs.{both_serve, none_serves}
use Rattle.snapshot_files.specs.Removed.{Goes}
use Rattle.snapshot_files.proofs.Leavers.{cleans_none, cleans_more, goes_none, goes_more}
use Rattle.snapshot_files.proofs.Answering.{leaves_none, leaves_more}
use Rattle.snapshot_files.proofs.removing.remove_all_leaving.Goals as goal

pub loop-name-init : goal.loop-name-init
loop-name-init g c =
    let d = g.D.Disk in let m = g.met.D.Disk in
    let disk = c.args.disk.now in
    record {
      serves = none_serves d.honest d.faults disk ⊥ (λ h. absurd h);
      crash = leaves_none d m.told c.args.manifests.now disk;
      gone = λ honest read has. goes_none read (d.content disk);
      only = λ honest read has. cleans_none read (d.content disk) (d.content disk) refl;
    }

pub returns-in_err-remove_leaving-clause-serves : goal.returns-in_err-remove_leaving-clause-serves
returns-in_err-remove_leaving-clause-serves g c =
    let d = g.D.Disk in
    both_serve d.honest d.faults _ _ _ ⊥ _ _ c.loop-name.invariant.serves c.remove_leaving.ensures.serves (search rules)

pub returns-in_err-remove_leaving-clause-crash : goal.returns-in_err-remove_leaving-clause-crash
returns-in_err-remove_leaving-clause-crash g c =
    let d = g.D.Disk in let m = g.met.D.Disk in
    leaves_more d m.told c.args.manifests.now c.args.disk.now c.loop-name.disk c.remove_leaving.new.disk c.loop-name.invariant.crash c.remove_leaving.ensures.crash

pub returns-in_err-remove_leaving-clause-only : goal.returns-in_err-remove_leaving-clause-only
returns-in_err-remove_leaving-clause-only g c =
    let d = g.D.Disk in
    let inv = c.loop-name.invariant in
    λ honest unfailed read has.
    cleans_more read (d.content c.args.disk.now) (d.content c.loop-name.disk) (d.content c.remove_leaving.new.disk) (inv.only honest read has)
    (c.remove_leaving.ensures.only (inv.serves.kept.0 honest) (search rules) read has)

pub loop-name-preserved : goal.loop-name-preserved
loop-name-preserved g c =
    let d = g.D.Disk in let m = g.met.D.Disk in
    let i = c.loop-name.name-index in
    let xs = c.args.names.now in
    let x = c.name-item.result in
    let inv = c.loop-name.invariant in
    let before : List (List ℕ) = map string_bytes (take i xs) in
    let more = take_more xs i x (omega arith) ∙ ap (λ y. take i xs ++ y ∷ []) (sym c.name-item.is) in
    let names : map string_bytes (take (i + 1) xs) ≡ before ++ string_bytes x ∷ [] = ap (map string_bytes) more ∙ map_push string_bytes (take i xs) x in
    let old = d.content c.loop-name.disk in
    let now = d.content c.remove_leaving.new.disk in
    let text : c.as_str.result.now ≡ string_bytes x = search rules in
    record {
      serves = both_serve d.honest d.faults _ _ _ ⊥ _ ⊥ inv.serves c.remove_leaving.ensures.serves (search rules);
      crash = leaves_more d m.told c.args.manifests.now c.args.disk.now c.loop-name.disk c.remove_leaving.new.disk inv.crash c.remove_leaving.ensures.crash;
      gone = λ honest read has.
          let h = inv.serves.kept.0 honest in
          subst (λ (ns : List (List ℕ)). Goes read ns now) (sym names)
          (goes_more read before (string_bytes x) old now (inv.gone honest read has)
          (c.in_ok-remove_leaving.ensures.only h (search rules) read has)
          (subst (λ (n : List ℕ). Goes read (n ∷ []) now) text (c.in_ok-remove_leaving.ensures.gone h read has)));
      only = λ honest read has.
          cleans_more read (d.content c.args.disk.now) old now (inv.only honest read has)
          (c.in_ok-remove_leaving.ensures.only (inv.serves.kept.0 honest) (search rules) read has);
    }

pub returns-clause-gone : goal.returns-clause-gone
returns-clause-gone g c =
    let d = g.D.Disk in
    let xs = c.args.names.now in
    let all : take c.loop-name.name-index xs ≡ xs = take_all _ _ c.loop-name-test.false in
    λ honest read has.
    subst (λ ys. Goes read (map string_bytes ys) (d.content c.loop-name.disk)) all (c.loop-name.invariant.gone honest read has)

pub returns-clause-only : goal.returns-clause-only
returns-clause-only g c = λ honest _ read has. c.loop-name.invariant.only honest read has
