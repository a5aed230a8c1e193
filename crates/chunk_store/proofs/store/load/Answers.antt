use Rattle.std.proofs.Common.{◌≡◌, sym, ap, ◌∙◌, rules}
use Rattle.chunk_store.specs.Pieces.{found_in}
use Rattle.chunk_store.specs.declared.chunk.LoadFault.TheVariants.{Damaged}
use Rattle.chunk_store.proofs.Maps.{held_blob}
use Rattle.chunk_store.proofs.Reading.{bytes_there, tells_fault, held_fault}
use Rattle.chunk_store.proofs.store.load.Goals as goal

pub returns-in_err-text-clause-damaged : goal.returns-in_err-text-clause-damaged
returns-in_err-text-clause-damaged g c = let d = g.D.Disk in λ honest.
    tells_fault (d.content c.args.disk.now) c.args.digest.now c.in_err-text.field-0.0 c.from_residual.result (search rules)
    c.in_err-text.ensures.asked (c.in_err-text.ensures.bytes honest)

pub returns-in_err-text-clause-held : goal.returns-in_err-text-clause-held
returns-in_err-text-clause-held g c = let d = g.D.Disk in λ honest p held named.
    held_fault (d.content c.args.disk.now) c.args.digest.now p c.in_err-text.field-0.0 c.from_residual.result (search rules)
    held named (c.in_err-text.ensures.bytes honest)

pub returns-in-Ok-clause-piece : goal.returns-in-Ok-clause-piece
returns-in-Ok-clause-piece g c = let d = g.D.Disk in λ honest.
    let there = bytes_there _ _ (c.in_ok-text.ensures.bytes honest) in
    ap (found_in c.args.digest.now.0) there ∙ c.in-Ok.ensures.value

pub returns-in-Ok-clause-held : goal.returns-in-Ok-clause-held
returns-in-Ok-clause-held g c = let d = g.D.Disk in λ honest p held named.
    let there = bytes_there _ _ (c.in_ok-text.ensures.bytes honest) in
    c.in-Ok.ensures.blob p (held_blob (d.content c.args.disk.now) c.args.digest.now.0 c.in_ok-text.text.items p there held named) held.1 named

pub returns-in-Err-clause-damaged : goal.returns-in-Err-clause-damaged
returns-in-Err-clause-damaged g c = let d = g.D.Disk in λ honest asked found is.
    let there = bytes_there _ _ (c.in_ok-text.ensures.bytes honest) in
    let same : Damaged c.args.digest.now c.in-Err.found ≡ Damaged asked found = sym c.damaged.ensures ∙ is in
    (cc, ap (found_in c.args.digest.now.0) there ∙ c.in-Err.ensures.value ∙ cc)

pub returns-in-Err-clause-held : goal.returns-in-Err-clause-held
returns-in-Err-clause-held g c = let d = g.D.Disk in λ honest p held named.
    let there = bytes_there _ _ (c.in_ok-text.ensures.bytes honest) in
    absurd (c.in-Err.ensures.blob p (held_blob (d.content c.args.disk.now) c.args.digest.now.0 c.in_ok-text.text.items p there held named) held.1 named)
