use Rattle.std.proofs.Common.{◌<◌, ◌∙◌, ap, length, refl, set, subst, arith}
use Rattle.store_history.specs.declared.act.Act.TheVariants.{Blob}
use Rattle.store_history.specs.History.{data_in}
use Rattle.core_state.specs.Changes.{blob_put}
use Rattle.core_writer.proofs.BlobStep.{not_writing}
use Rattle.std.specs.List.{list_all}
use Rattle.core_state.specs.Named.{is_named}
use Rattle.core_state.proofs.Commanding.{unwritten_does, unwritten_leaves}
use Rattle.core_state.proofs.NamedLemmas.{list_all-set, list_all-at}
use Rattle.core_writer.specs.Pending.{MakesPending}
use Rattle.core_writer.proofs.KeepLemmas.{found_stays, found_writes}
use Rattle.core_writer.proofs.PendingLemmas.{is_pending, left_named, put_does, put_leaves, unpending_does, unpending_leaves, unput_does, unput_leaves}
use Rattle.core_writer.proofs.SteppedLemmas.{false_true}
use Rattle.core_writer.proofs.uploads.blob.Goals as goal

pub returns-in_err-writer-clause-does : goal.returns-in_err-writer-clause-does
returns-in_err-writer-clause-does g c =
    unwritten_does g.D.Disk c.args.parts.now c.args.at (Blob c.args.name.now c.args.checked) _ _ c.from_residual.ensures.1 c.requires.lane
    c.in_err-writer.ensures.value c.in_err-writer.ensures.text (λ state. refl) (λ s none. not_writing s c.args.at.lane c.args.name.now (data_in c.args.checked) _ none)

pub returns-in_err-writer-clause-leaves : goal.returns-in_err-writer-clause-leaves
returns-in_err-writer-clause-leaves g c =
    unwritten_leaves g.D.Disk c.args.parts.now c.args.at (Blob c.args.name.now c.args.checked) _ _ c.from_residual.ensures.1 c.in_err-writer.ensures.value (λ closing. absurd (false_true closing))

pub take_blob-requires-clause-writer : goal.take_blob-requires-clause-writer
take_blob-requires-clause-writer g c =
    let items = c.args.parts.now.sessions.items in
    let within : c.args.at.lane < length items = omega (arith, c.args.parts.now.lanes, c.args.parts.now.sessions.ok.0, c.requires.lane) in
    found_writes items c.args.at.lane c.index_mut-session.result.now _ within c.index_mut-session.ensures.value c.in_ok-writer.ensures.value

-- ---- it is stopped before

pub returns-in_err-new-clause-does : goal.returns-in_err-new-clause-does
returns-in_err-new-clause-does g c =
    unpending_does g.D.Disk c.args.parts.now _ c.args.at (Blob c.args.name.now c.args.checked) c.index_mut-session.result.now c.take_blob.new.session (blob_put c.args.name.now c.args.checked) c.requires.lane c.index_mut-session.ensures.value refl refl refl
    c.take_blob.result _ _ c.from_residual-in_err-new.ensures.1 c.in_err-new.was (c.take_blob.ensures) refl refl

pub returns-in_err-new-clause-leaves : goal.returns-in_err-new-clause-leaves
returns-in_err-new-clause-leaves g c =
    unpending_leaves g.D.Disk c.args.parts.now _ c.args.at (Blob c.args.name.now c.args.checked) c.index_mut-session.result.now c.take_blob.new.session (blob_put c.args.name.now c.args.checked) c.requires.lane c.index_mut-session.ensures.value refl refl refl
    c.take_blob.result _ _ c.from_residual-in_err-new.ensures.1 c.in_err-new.was (c.take_blob.ensures) refl refl refl

pub invariant_of-parts : goal.invariant_of-parts
invariant_of-parts g c =
    let old = c.args.parts.now in
    let same = ap (set old.sessions.items c.args.at.lane) (c.in_err-new.ensures).same ∙ found_stays old.sessions.items c.args.at.lane c.index_mut-session.result.now c.index_mut-session.ensures.value in
    record { lanes = old.lanes; named = ap (list_all is_named) same ∙ old.named; rows = old.rows }

-- ---- it is put

pub keep_pending-requires : goal.keep_pending-requires
keep_pending-requires g c =
    is_pending c.index_mut-session.result.now c.take_blob.new.session _ _ _ (subst (MakesPending c.index_mut-session.result.now c.take_blob.new.session _ _ (blob_put c.args.name.now c.args.checked)) c.in_ok-new.was (c.take_blob.ensures)).pending

pub invariant_of-parts-2-clause-named : goal.invariant_of-parts-2-clause-named
invariant_of-parts-2-clause-named g c =
    let old = c.args.parts.now in
    let within : c.args.at.lane < length old.sessions.items = omega (arith, old.lanes, old.sessions.ok.0, c.requires.lane) in
    list_all-set is_named old.sessions.items c.args.at.lane c.keep_pending.new.session old.named
    (left_named c.keep_pending.result c.index_mut-session.result.now c.take_blob.new.session c.keep_pending.new.session _ _ _
    (list_all-at is_named old.sessions.items c.args.at.lane c.index_mut-session.result.now old.named within c.index_mut-session.ensures.value)
    (subst (MakesPending c.index_mut-session.result.now c.take_blob.new.session _ _ (blob_put c.args.name.now c.args.checked)) c.in_ok-new.was (c.take_blob.ensures)).pending c.keep_pending.ensures.ok c.keep_pending.ensures.err)

pub returns-in_err-keep_pending-clause-does : goal.returns-in_err-keep_pending-clause-does
returns-in_err-keep_pending-clause-does g c =
    let old = c.args.parts.now in
    let within : c.args.at.lane < length old.sessions.items = omega (arith, old.lanes, old.sessions.ok.0, c.requires.lane) in
    unput_does g.D.Disk old _ c.args.at (Blob c.args.name.now c.args.checked) c.index_mut-session.result.now c.take_blob.new.session (blob_put c.args.name.now c.args.checked) c.requires.lane c.index_mut-session.ensures.value refl refl refl
    c.in_ok-new.new c.take_blob.result c.in_ok-new.was (c.take_blob.ensures) c.keep_pending.new.session refl c.keep_pending.result c.keep_pending.ensures.puts
    _ _ c.from_residual-in_err-keep_pending.ensures.1 c.in_err-keep_pending.was (list_all-at is_named old.sessions.items c.args.at.lane c.index_mut-session.result.now old.named within c.index_mut-session.ensures.value)
    c.in_err-keep_pending.ensures.err

pub returns-in_err-keep_pending-clause-leaves : goal.returns-in_err-keep_pending-clause-leaves
returns-in_err-keep_pending-clause-leaves g c =
    let old = c.args.parts.now in
    let within : c.args.at.lane < length old.sessions.items = omega (arith, old.lanes, old.sessions.ok.0, c.requires.lane) in
    unput_leaves g.D.Disk old _ c.args.at (Blob c.args.name.now c.args.checked) c.index_mut-session.result.now c.take_blob.new.session (blob_put c.args.name.now c.args.checked) c.requires.lane c.index_mut-session.ensures.value refl refl refl
    c.in_ok-new.new c.take_blob.result c.in_ok-new.was (c.take_blob.ensures) c.keep_pending.new.session refl c.keep_pending.result c.keep_pending.ensures.puts
    _ _ c.from_residual-in_err-keep_pending.ensures.1 c.in_err-keep_pending.was (list_all-at is_named old.sessions.items c.args.at.lane c.index_mut-session.result.now old.named within c.index_mut-session.ensures.value)
    c.in_err-keep_pending.ensures.err refl refl refl (λ s h. tt)

pub returns-clause-does : goal.returns-clause-does
returns-clause-does g c =
    put_does g.D.Disk c.args.parts.now _ c.args.at (Blob c.args.name.now c.args.checked) c.index_mut-session.result.now c.take_blob.new.session (blob_put c.args.name.now c.args.checked) c.requires.lane c.index_mut-session.ensures.value refl refl refl
    c.in_ok-new.new c.take_blob.result c.in_ok-new.was (c.take_blob.ensures) c.keep_pending.new.session refl c.keep_pending.result c.keep_pending.ensures.puts
    c.in_ok-keep_pending.ensures.puts.put c.in_ok-keep_pending.ensures.ok refl

pub returns-clause-leaves : goal.returns-clause-leaves
returns-clause-leaves g c =
    put_leaves g.D.Disk c.args.parts.now _ c.args.at (Blob c.args.name.now c.args.checked) c.index_mut-session.result.now c.take_blob.new.session (blob_put c.args.name.now c.args.checked) c.requires.lane c.index_mut-session.ensures.value refl refl refl
    c.in_ok-new.new c.take_blob.result c.in_ok-new.was (c.take_blob.ensures) c.keep_pending.new.session refl c.keep_pending.result c.keep_pending.ensures.puts
    c.in_ok-keep_pending.ensures.puts.put c.in_ok-keep_pending.ensures.ok refl refl refl refl refl
