use Rattle.std.proofs.Common.{◌≡◌, false, rules}
use Rattle.store_types.specs.FileNames.{is_file_name}
use Rattle.plain_sessions.proofs.NewParts.{no_blob_name}
use Rattle.plain_sessions.proofs.writer.Writer.upload.Goals as goal

pub returns-in_default-clause-gives : goal.returns-in_default-clause-gives
returns-in_default-clause-gives c =
    let bad : is_file_name c.args.name.now ≡ false = search rules in
    no_blob_name c.args.self.now c.args.name.now c.args.blob.now bad
