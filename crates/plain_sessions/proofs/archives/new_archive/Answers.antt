use Rattle.std.proofs.Common.{◌≡◌, ◌∙◌, replicate, refl, rules}
use Rattle.plain_snapshots.specs.Shown.{shown_layout}
use Rattle.plain_sessions.proofs.NewParts.{archive_is}
use Rattle.plain_sessions.proofs.archives.new_archive.Goals as goal

pub returns : goal.returns
returns c =
    let zeros : c.from_vec.result ≡ replicate c.args.reserved 0 = search rules in
    archive_is (shown_layout c.args.layout) c.args.key.now c.args.name.now c.args.moment c.args.moment c.args.reserved c.in_ok-from_slice.field-0 c.from_vec.result c.new.result.items refl c.requires
    (c.in_ok-from_slice.ensures ∙ c.in_ok-uuid.ensures) zeros c.new.ensures.items
