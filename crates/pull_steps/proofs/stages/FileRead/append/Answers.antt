use Rattle.std.proofs.Common.{◌≡◌, ◌++◌, ◌≤◌, ◌<◌, length, take, ap, subst, ◌∙◌, arith}
use Rattle.std.proofs.lemmas.List.{take_at}
use Rattle.store_model.specs.SizeLimits.{size_limit}
use Rattle.store_history.specs.Pulling.{asks, file_read, reading_file}
use Rattle.pull_steps.specs.Files.{behind_file}
use Rattle.pull_steps.specs.States.{shown_course, shown_stock}
use Rattle.pull_steps.proofs.Parts.{file_long, file_more, file_whole}
use Rattle.pull_steps.proofs.stages.FileRead.append.Goals as goal

pub returns-then-total-size_limit-clause-part : goal.returns-then-total-size_limit-clause-part
returns-then-total-size_limit-clause-part c =
    let r = c.args.self.now in
    let bytes = r.bytes.items ++ c.args.more.now in
    let long : size_limit r.name < c.args.total = omega (arith, c.size_limit.ensures) in
    c.in_ok-bad_file.ensures.whole (shown_stock r.stock) r.bytes.items ∙ file_long (shown_course r.course) (shown_stock r.stock) r.name bytes c.args.total long

pub returns-then-len-total-clause-part : goal.returns-then-len-total-clause-part
returns-then-len-total-clause-part c =
    let r = c.args.self.now in
    let bytes = r.bytes.items ++ c.args.more.now in
    let fits : c.args.total ≤ size_limit r.name = omega (arith, c.size_limit.ensures) in
    let short : length bytes < c.args.total = omega (arith, c.len.ensures, ap length c.in_ok-extend_from_slice.ensures.items) in
    ap (λ b. asks (reading_file (shown_course r.course) (shown_stock r.stock) r.name b)) c.in_ok-extend_from_slice.ensures.items
    ∙ file_more (shown_course r.course) (shown_stock r.stock) r.name bytes c.args.total fits short

pub returns-in-Ok-clause-part : goal.returns-in-Ok-clause-part
returns-in-Ok-clause-part c =
    let r = c.args.self.now in
    let bytes = r.bytes.items ++ c.args.more.now in
    let fits : c.args.total ≤ size_limit r.name = omega (arith, c.size_limit.ensures) in
    let within : c.args.total ≤ length bytes = omega (arith, c.len.ensures, ap length c.in_ok-extend_from_slice.ensures.items) in
    let told = subst (λ b. behind_file (shown_course r.course) (shown_stock r.stock) r.name b c.in-Ok.whole ≡ file_read (shown_course r.course) (shown_stock r.stock) r.name b)
    c.deref.ensures.value (c.in-Ok.ensures.whole (shown_stock r.stock)) in
    told ∙ ap (file_read (shown_course r.course) (shown_stock r.stock) r.name) c.in_ok-extend_from_slice.ensures.items
    ∙ file_whole (shown_course r.course) (shown_stock r.stock) r.name bytes c.args.total fits within

pub returns-in-Err-clause-err : goal.returns-in-Err-clause-err
returns-in-Err-clause-err c =
    let r = c.args.self.now in
    c.truncate.ensures.items ∙ ap (take c.len-before.result) c.in_ok-extend_from_slice.ensures.items
    ∙ take_at r.bytes.items c.args.more.now c.len-before.result (omega (arith, c.len-before.ensures, r.bytes.ok.0))
