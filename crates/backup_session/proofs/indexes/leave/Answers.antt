use Rattle.std.proofs.Common.{◌≡◌, ◌<◌, None, rules, length, ap, subst, sym, ◌∙◌, arith}
use Rattle.std.proofs.lemmas.List.{length-map}
use Rattle.backup_session.specs.Kept.{open_of, opens_of, left_of, IsClosing}
use Rattle.backup_session.proofs.Places.{remove-map}
use Rattle.backup_session.proofs.indexes.leave.Goals as goal

pub remove-requires : goal.remove-requires
remove-requires c =
    let within : c.in-Some.place < length (opens_of c.args.begun.now.items) = subst (λ closes. IsClosing closes (opens_of c.args.begun.now.items)) c.in-Some.is c.requires in
    omega (arith, within, length-map c.args.begun.now.items open_of, c.args.begun.now.ok.0)

pub returns-in-Some : goal.returns-in-Some
returns-in-Some c =
    ap opens_of c.remove.ensures.items ∙ remove-map open_of c.args.begun.now.items c.in-Some.place
    ∙ ap (λ closes. left_of closes (opens_of c.args.begun.now.items)) (sym c.in-Some.is)

pub returns-in_default : goal.returns-in_default
returns-in_default c =
    let none : c.args.closes ≡ None = search rules in
    ap (λ closes. left_of closes (opens_of c.args.begun.now.items)) (sym none)
