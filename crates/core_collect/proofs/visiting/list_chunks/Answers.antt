use Rattle.std.proofs.Common.{◌≡◌, ◌<◌, ◌^◌, true, false, inl, inr, refl, sym, ◌∙◌, length, arith, rules}
use Rattle.disk_trait.specs.declared.disk.DiskError.TheVariants.{Failed}
use Rattle.gc_plan.specs.Plan.{has_names}
use Rattle.disk_trait.proofs.OnlyReading.{reads_none}
use Rattle.core_collect.proofs.VisitAnswers.{lists_failed, ok_apart, ok_error, reads_so}
use Rattle.core_collect.proofs.visiting.list_chunks.Goals as goal

pub returns-then-is_listed : goal.returns-then-is_listed
returns-then-is_listed g c =
    let has : has_names c.args.plan.now ≡ true = sym c.is_listed.ensures ∙ c.if-is_listed.true in
    record {
      reads = reads_none g.D.Disk c.args.disk.now _ (λ e. ok_apart tt Failed e);
      listed = inl (has, refl);
      failed = λ e. absurd (ok_error e);
    }

pub returns-in_err-names : goal.returns-in_err-names
returns-in_err-names g c = lists_failed g.D.Disk c.args.disk.now c.scan.new.disk c.args.plan.now _ _ (search rules) c.scan.ensures.reads (search rules)

pub returns : goal.returns
returns g c =
    let none : has_names c.args.plan.now ≡ false = sym c.is_listed.ensures ∙ c.if-is_listed.false in
    let names = c.in_ok-names.names in
    let few : length names.items < 2 ^ 63 = omega (arith, names.ok.0, names.ok.1, names.small) in
    record {
      reads = reads_so g.D.Disk c.args.disk.now c.scan.new.disk _ _ c.scan.ensures.reads (λ e. absurd (ok_apart tt Failed e));
      listed = inr (none, (names.items, c.listed.ensures.value, record { few = few; lists = c.in_ok-names.ensures.digests }));
      failed = λ e. absurd (ok_error e);
    }
