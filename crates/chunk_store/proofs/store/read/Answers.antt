use Rattle.std.proofs.Common.{◌≡◌, ◌∙◌, length, option_map, Some, None, sym, rules}
use Rattle.std.specs.FinMap.{get}
use Rattle.store_types.specs.declared.refusal.ChunkFault.TheVariants.{Nothing, NotABlob}
use Rattle.store_files.specs.Folder.{chunk_name}
use Rattle.chunk_store.specs.declared.chunk.LoadFault.TheVariants.{Damaged}
use Rattle.chunk_store.proofs.DiskCalls.{size_then_read}
use Rattle.chunk_store.proofs.Reading.{bytes_fit, bytes_long, bytes_none, bytes_read}
use Rattle.chunk_store.proofs.store.read.Goals as goal

pub returns-in_default-clause-bytes : goal.returns-in_default-clause-bytes
returns-in_default-clause-bytes g c = let d = g.D.Disk in λ honest asked found is.
    let at = get (d.content c.args.disk.now) (chunk_name c.args.digest.now.0) in
    let none : None ≡ option_map (λ t. length t) at = search rules in
    let same : Damaged c.args.digest.now Nothing ≡ Damaged asked found = sym c.damaged.ensures ∙ is in
    bytes_none at none ∙ cc

pub returns-then-size-gt-BLOB_LIMIT-clause-bytes : goal.returns-then-size-gt-BLOB_LIMIT-clause-bytes
returns-then-size-gt-BLOB_LIMIT-clause-bytes g c = let d = g.D.Disk in λ honest asked found is.
    let at = get (d.content c.args.disk.now) (chunk_name c.args.digest.now.0) in
    let some : Some c.in-Some.size ≡ option_map (λ t. length t) at = search rules in
    let same : Damaged c.args.digest.now NotABlob ≡ Damaged asked found = sym c.damaged-then-size-gt-BLOB_LIMIT.ensures ∙ is in
    bytes_long at c.in-Some.size some c.if-size-gt-BLOB_LIMIT.true ∙ cc

pub returns-in_err-text-clause-calls : goal.returns-in_err-text-clause-calls
returns-in_err-text-clause-calls g c = let d = g.D.Disk in
    let at = get (d.content c.args.disk.now) (chunk_name c.args.digest.now.0) in
    record {
      given = λ honest. search rules;
      damaged = λ honest. search rules;
      wanting = λ honest want.
          let some : Some c.in-Some.size ≡ option_map (λ t. length t) at = search rules in
          bytes_fit at c.in-Some.size some (search rules);
    }

pub returns-in_err-text-clause-reads : goal.returns-in_err-text-clause-reads
returns-in_err-text-clause-reads g c = let d = g.D.Disk in
    size_then_read d c.args.disk.now c.size.new.self c.read.new.self _ _ _ c.size.ensures.serves c.read.ensures.serves
    c.size.ensures.crash c.read.ensures.crash c.size.ensures.same c.read.ensures.same (search rules)

pub returns-in-Some-2-clause-reads : goal.returns-in-Some-2-clause-reads
returns-in-Some-2-clause-reads g c = let d = g.D.Disk in
    size_then_read d c.args.disk.now c.size.new.self c.read.new.self _ _ _ c.size.ensures.serves c.read.ensures.serves
    c.size.ensures.crash c.read.ensures.crash c.size.ensures.same c.read.ensures.same (search rules)

pub returns-in-Some-2-clause-bytes : goal.returns-in-Some-2-clause-bytes
returns-in-Some-2-clause-bytes g c = let d = g.D.Disk in λ honest.
    let at = get (d.content c.args.disk.now) (chunk_name c.args.digest.now.0) in
    let there : at ≡ Some c.in-Some-2.text.items = search rules in
    bytes_read at c.in-Some-2.text.items there (search rules)

pub returns-in_default-2-clause-reads : goal.returns-in_default-2-clause-reads
returns-in_default-2-clause-reads g c = let d = g.D.Disk in
    size_then_read d c.args.disk.now c.size.new.self c.read.new.self _ _ _ c.size.ensures.serves c.read.ensures.serves
    c.size.ensures.crash c.read.ensures.crash c.size.ensures.same c.read.ensures.same (search rules)
