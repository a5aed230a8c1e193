use Rattle.std.proofs.Common.{List, [], sym, ap, subst, ◌∙◌, arith}
use Rattle.std.proofs.lemmas.List.Elements.{All-nil, All-same}
use Rattle.wire_commands.specs.HasText.{FitsFileRow, ReplyHasText}
use Rattle.store_model.specs.FaultRows.{IsFitRow}
use Rattle.wire_commands.specs.declared.rows.FaultRow.{FaultRow}
use Rattle.store_model.specs.Job.{Visit, closing, ended_by}
use Rattle.store_model.specs.VerifyJob.{begun, listed, next_file}
use Rattle.store_model.proofs.VerifyLemmas.{next_any}
use Rattle.plain_lanes.proofs.VerifyLemmas.{listed_not}
use Rattle.plain_lanes.proofs.verify.listed.Goals as goal

pub returns-in-Ok-clause-job : goal.returns-in-Ok-clause-job
unfolding listed
returns-in-Ok-clause-job c =
    let none = begun c.args.snapshot in
    let later = c.from_vec.result.items in
    let rows = c.from_vec.ensures.items ∙ c.into_vec.ensures in
    c.next_file.ensures.job
    ∙ ap (λ (fs : List FaultRow). next_file (let y : Visit = record none { faults = fs; later = later } in y) later) c.new.ensures.items
    ∙ next_any none later later ∙ ap (next_file none) rows ∙ ap (listed c.args.snapshot) (sym c.in-Ok.ensures)

pub returns-in-Err-clause-job : goal.returns-in-Err-clause-job
returns-in-Err-clause-job c =
    c.ended.ensures.job ∙ ap (ended_by closing) c.in-Err.ensures.1 ∙ listed_not c.args.snapshot c.args.reply c.in-Err.ensures.0

pub invariant_of-visit : goal.invariant_of-visit
invariant_of-visit c =
    let told = subst ReplyHasText c.in-Ok.ensures c.requires in
    record {
      few = omega (arith, c.new.ensures.len);
      spelled = All-same IsFitRow c.new.result.items [] c.new.ensures.items (All-nil IsFitRow);
      listed = All-same FitsFileRow c.from_vec.result.items c.in-Ok.rows (c.from_vec.ensures.items ∙ c.into_vec.ensures) (told.0).1;
    }

pub ended-requires : goal.ended-requires
ended-requires c = subst ReplyHasText (sym c.in-Err.ensures.1) c.requires
