use Rattle.std.proofs.Common.{◌≡◌, length, ap, rules, arith}
use Rattle.store_types.specs.Names.{IsKey, key_text}
use Rattle.snapshot_files.proofs.PathLengths.{key_short}
use Rattle.core_writer.proofs.opening.base_text.Goals as goal

pub returns-in_ok-print-in-Some-clause-short : goal.returns-in_ok-print-in-Some-clause-short
returns-in_ok-print-in-Some-clause-short c =
    let is : c.from_vec.result ≡ key_text c.in-Some.key.now = search rules in
    let key : IsKey c.in-Some.key.now = c.requires _ c.in-Some.is in
    let same = ap length is in
    omega (arith, same, key_short c.in-Some.key.now key)
