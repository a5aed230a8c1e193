use Rattle.std.proofs.Common.{◌≡◌, List, [], length, sym, ap, subst, ◌∙◌, arith}
use Rattle.std.proofs.lemmas.List.{nil_from_length}
use Rattle.std.proofs.lemmas.List.Elements.{All-nil, All-same}
use Rattle.wire_commands.specs.declared.rows.FaultRow.{FaultRow}
use Rattle.wire_commands.specs.HasText.{FitsFileRow, ReplyHasText}
use Rattle.store_model.specs.Job.{Visit}
use Rattle.store_model.specs.VerifyJob.{begun, listed, next_file}
use Rattle.store_model.specs.FaultRows.{IsFitRow}
use Rattle.store_model.proofs.VerifyLemmas.{next_any}
use Rattle.job_steps.proofs.visit.Opening.listed.Goals as goal

pub returns-clause-job : goal.returns-clause-job
unfolding listed
returns-clause-job c =
    let o = c.args.self in
    let none = begun o.snapshot in
    let later = c.from_vec.result.items in
    let rows = c.from_vec.ensures.items ∙ c.into_vec.ensures in
    let empty : o.room.items ≡ [] = nil_from_length o.room.items (omega (arith, o.empty, o.room.ok.0)) in
    c.next_file.ensures.job ∙ ap (λ (fs : List FaultRow). next_file (let y : Visit = record none { faults = fs; later = later } in y) later) empty
    ∙ next_any none later later ∙ ap (next_file none) rows ∙ ap (listed o.snapshot) (sym c.in-Files.is)

pub invariant_of-next_file : goal.invariant_of-next_file
invariant_of-next_file c =
    let o = c.args.self in
    let told = subst ReplyHasText c.in-Files.is c.requires in
    let rows = c.from_vec.ensures.items ∙ c.into_vec.ensures in
    let empty : o.room.items ≡ [] = nil_from_length o.room.items (omega (arith, o.empty, o.room.ok.0)) in
    record {
      told = omega (arith, (told.0).0, ap length rows);
      few = omega (arith, ap length empty);
      room = o.capacity;
      entries_few = omega arith;
      bytes_few = omega arith;
      spelled = All-same IsFitRow o.room.items [] empty (All-nil IsFitRow);
      listed = All-same FitsFileRow c.from_vec.result.items c.in-Files.rows rows (told.0).1;
    }
