use Rattle.std.proofs.Common.{◌∙◌, refl}
use Rattle.file_install.proofs.Crash.{stage_leaves, rename_leaves, rename_whole, rename_content, none_is, none_leaves_old}
use Rattle.file_install.proofs.install.Goals as goal

pub returns-in_err-temporary-clause-crash : goal.returns-in_err-temporary-clause-crash
returns-in_err-temporary-clause-crash g c =
    let d = g.D.Disk in let m = g.met.D.Disk in
    none_leaves_old d.calls d.images d.honest d.content m.told m.as_read c.args.disk.now c.args.name.now c.args.bytes.now

pub returns-in_err-temporary-clause-unchanged : goal.returns-in_err-temporary-clause-unchanged
returns-in_err-temporary-clause-unchanged g c =
    let d = g.D.Disk in let m = g.met.D.Disk in
    λ _. (λ h. refl, none_is d.calls d.images d.honest d.content m.told m.as_read c.args.disk.now, refl)

pub returns-in_err-stage-clause-crash : goal.returns-in_err-stage-clause-crash
returns-in_err-stage-clause-crash g c =
    let d = g.D.Disk in let m = g.met.D.Disk in
    stage_leaves d.calls d.images d.honest d.content m.told m.as_read c.args.disk.now c.args.name.now c.args.bytes.now _ _
    (c.as_str-staged.ensures.value ∙ c.in_ok-temporary.ensures) c.stage.ensures.crash

pub returns-in_err-rename-clause-crash : goal.returns-in_err-rename-clause-crash
returns-in_err-rename-clause-crash g c =
    let d = g.D.Disk in let m = g.met.D.Disk in
    rename_leaves d.calls d.images d.honest d.content m.told m.as_read c.args.disk.now c.args.name.now c.args.bytes.now c.stage.new.disk c.rename.new.self c.as_str-staged.result.now
    (c.as_str-staged.ensures.value ∙ c.in_ok-temporary.ensures) c.stage.ensures.serves.kept c.stage.ensures.crash c.in_ok-stage.ensures.put c.in_ok-stage.ensures.durable c.rename.ensures.crash

pub returns-clause-crash : goal.returns-clause-crash
returns-clause-crash g c =
    let d = g.D.Disk in let m = g.met.D.Disk in
    rename_leaves d.calls d.images d.honest d.content m.told m.as_read c.args.disk.now c.args.name.now c.args.bytes.now c.stage.new.disk c.rename.new.self c.as_str-staged.result.now
    (c.as_str-staged.ensures.value ∙ c.in_ok-temporary.ensures) c.stage.ensures.serves.kept c.stage.ensures.crash c.in_ok-stage.ensures.put c.in_ok-stage.ensures.durable c.rename.ensures.crash

pub returns-clause-whole : goal.returns-clause-whole
returns-clause-whole g c =
    let d = g.D.Disk in let m = g.met.D.Disk in
    rename_whole d.calls d.images d.honest d.content m.told m.as_read c.args.disk.now c.args.name.now c.args.bytes.now c.stage.new.disk c.rename.new.self c.as_str-staged.result.now
    (c.as_str-staged.ensures.value ∙ c.in_ok-temporary.ensures) c.stage.ensures.serves.kept c.stage.ensures.crash c.in_ok-stage.ensures.put c.in_ok-stage.ensures.durable c.rename.ensures.crash

pub returns-clause-installed : goal.returns-clause-installed
returns-clause-installed g c =
    let d = g.D.Disk in let m = g.met.D.Disk in
    λ h. rename_content d.calls d.images d.honest d.content m.told m.as_read c.args.disk.now c.args.name.now c.args.bytes.now c.stage.new.disk c.rename.new.self c.as_str-staged.result.now
    (c.as_str-staged.ensures.value ∙ c.in_ok-temporary.ensures) c.stage.ensures.serves.kept c.stage.ensures.crash c.in_ok-stage.ensures.put c.in_ok-stage.ensures.durable c.rename.ensures.crash
    c.in_ok-rename.field-0 h c.in_ok-rename.ensures.there c.in_ok-rename.ensures.renamed
