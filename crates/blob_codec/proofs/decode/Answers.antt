use Rattle.std.proofs.Common.{sym, ap, ap₂, ◌∙◌, arith}
use Rattle.std.specs.Int.{w32, from_le_bytes}
use Rattle.std.proofs.lemmas.Result.{err_from_is_err_and}
use Rattle.blob_codec.specs.Blob.{data_under, data_behind}
use Rattle.blob_codec.proofs.Reading.{data_of-short, data_of-under}
use Rattle.blob_codec.proofs.decode.Goals as goal

pub returns-then-bytes-lt-HEADER_SIZE : goal.returns-then-bytes-lt-HEADER_SIZE
returns-then-bytes-lt-HEADER_SIZE c = data_of-short c.args.bytes.now (omega arith)

pub returns-in_err-check_magic : goal.returns-in_err-check_magic
returns-in_err-check_magic c =
    let p = err_from_is_err_and c.from_residual.result c.from_residual.ensures.1 in
    rw (p.1, p.2)
    (data_of-under c.args.bytes.now (omega arith)
    ∙ ap₂ data_under (sym c.split_at.ensures.front) (sym c.split_at.ensures.back)
    ∙ c.in_err-check_magic.ensures c.split_at.result.1.now)

pub returns-in_err-check_data : goal.returns-in_err-check_data
returns-in_err-check_data c =
    let p = err_from_is_err_and c.from_residual-in_err-check_data.result c.from_residual-in_err-check_data.ensures.1 in
    rw (p.1, p.2)
    (data_of-under c.args.bytes.now (omega arith)
    ∙ ap₂ data_under (sym c.split_at.ensures.front) (sym c.split_at.ensures.back)
    ∙ c.in_ok-check_magic.ensures c.split_at.result.1.now
    ∙ ap₂ data_behind (ap (from_le_bytes w32) (sym c.split_at-2.ensures.front) ∙ sym c.from_le_bytes.ensures) (sym c.split_at-2.ensures.back)
    ∙ c.in_err-check_data.ensures)

pub returns : goal.returns
returns c =
    data_of-under c.args.bytes.now (omega arith)
    ∙ ap₂ data_under (sym c.split_at.ensures.front) (sym c.split_at.ensures.back)
    ∙ c.in_ok-check_magic.ensures c.split_at.result.1.now
    ∙ ap₂ data_behind (ap (from_le_bytes w32) (sym c.split_at-2.ensures.front) ∙ sym c.from_le_bytes.ensures) (sym c.split_at-2.ensures.back)
    ∙ c.in_ok-check_data.ensures
