use Rattle.std.proofs.Common.{◌≡◌, ◌+◌, ◌∙◌, ◌++◌, ◌∷◌, [], length, refl, sym, ap, subst, arith}
use Rattle.std.proofs.lemmas.Iterator.Adapters.{YieldsList-from_vec}
use Rattle.std.proofs.lemmas.Iterator.Consumers.{YieldsList-turn}
use Rattle.snapshot_files.specs.Scanned.{HasNames}
use Rattle.core_state.specs.declared.kept.Listed.{Listed}
use Rattle.core_state.specs.Catalogue.{insert_listed}
use Rattle.core_state.specs.Numbers.{first_number}
use Rattle.core_opening.specs.Opening.{AreInserted}
use Rattle.core_opening.proofs.Inserting.{length_insert, one_inserted}
use Rattle.core_opening.proofs.Keeping.{is_named}
use Rattle.core_opening.proofs.Numbered.{AreBelow, one_below}
use Rattle.core_opening.proofs.cataloguing.catalogue_of.Goals as goal

pub insert_reserved-requires-clause-named : goal.insert_reserved-requires-clause-named
insert_reserved-requires-clause-named c =
    let xs = c.args.found.items in
    let x = c.in-Some.found in
    let turn = YieldsList-turn (YieldsList-from_vec xs (cc) (cc)) c.loop-found.yielded _ c.loop-found.yielded_by _ c.next.new.self x c.in-Some.is c.next.ensures.steps in
    let names : HasNames x = subst HasNames (sym turn.1) (c.requires (length c.loop-found.yielded) x turn.0) in
    let y : Listed = record { number = first_number + length c.as_slice.result.now; kept = c.in_ok-kept.kept } in
    is_named x y names c.in_ok-kept.ensures

pub loop-found-preserved : goal.loop-found-preserved
loop-found-preserved c =
    let ys = c.loop-found.catalogue.listed in
    let x = c.in-Some.found in
    let y : Listed = record { number = first_number + length ys; kept = c.in_ok-kept.kept } in
    let same : c.reserve.new.self.listed ≡ ys = c.in_ok-reserve.ensures.same in
    let len : length c.as_slice.result.now ≡ length ys = ap length c.as_slice.ensures.listed in
    let is : c.insert_reserved.new.self.listed ≡ insert_listed y ys =
    c.insert_reserved.ensures ∙ ap (insert_listed _) same ∙ ap (λ n. let z : Listed = record { number = first_number + n; kept = c.in_ok-kept.kept } in insert_listed z ys) len in
    let more : first_number + length ys + 1 ≡ first_number + length c.insert_reserved.new.self.listed = omega (arith, ap length is, length_insert y ys) in
    record {
      listed = subst (AreInserted (c.loop-found.yielded ++ x ∷ [])) (sym is) (one_inserted c.loop-found.yielded ys x y c.loop-found.invariant.listed refl c.in_ok-kept.ensures);
      numbers =
          subst (λ n. AreBelow n c.insert_reserved.new.self.listed) more
          (subst (AreBelow (first_number + length ys + 1)) (sym is) (one_below (first_number + length ys) y ys (omega arith) refl c.loop-found.invariant.numbers));
    }
