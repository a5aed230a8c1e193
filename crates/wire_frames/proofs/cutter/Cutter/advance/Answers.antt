use Rattle.std.proofs.Common.{arith}
use Rattle.wire_frames.proofs.CuttingLemmas.{placed}
use Rattle.wire_frames.proofs.cutter.Cutter.advance.Goals as goal

pub overflow_add-self : goal.overflow_add-self
overflow_add-self c =
    let p = placed c.self.inside.bytes.items c.self.inside.start c.self.view_is c.self.invariant.within c.held.ensures c.in-Ok-Some.field-0-is c.in-Ok-Some.ensures in
    omega (arith, p.within)

pub overflow_add-self-in-Ok-Some : goal.overflow_add-self-in-Ok-Some
overflow_add-self-in-Ok-Some c =
    let p = placed c.self.inside.bytes.items c.self.inside.start c.self.view_is c.self.invariant.within c.held.ensures c.in-Ok-Some.field-0-is c.in-Ok-Some.ensures in
    omega (arith, p.within)

pub invariant_of-self : goal.invariant_of-self
invariant_of-self c =
    let p = placed c.self.inside.bytes.items c.self.inside.start c.self.view_is c.self.invariant.within c.held.ensures c.in-Ok-Some.field-0-is c.in-Ok-Some.ensures in
    record {
      within = p.within;
      skipped = omega arith;
      inline = c.self.invariant.inline;
      fits = omega (arith, p.within);
    }

pub returns-in-Ok-Some : goal.returns-in-Ok-Some
returns-in-Ok-Some c =
    let p = placed c.self.inside.bytes.items c.self.inside.start c.self.view_is c.self.invariant.within c.held.ensures c.in-Ok-Some.field-0-is c.in-Ok-Some.ensures in
    p.behind
