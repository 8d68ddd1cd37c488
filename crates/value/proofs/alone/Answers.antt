-- `value::alone` meets its contract: each key that is wrong ends it, in the definition's order.
use mathlib.Core.Path.{◌≡◌, sym, ◌∙◌}
use Rattle.std.specs.Prelude.{Some}
use Rattle.msgpack.specs.Readers.{part}
use Rattle.msgpack.specs.Views.{byte_view}
use Rattle.msgpack.specs.PairLaws.{told_inside}
use Rattle.value.specs.Fields.{bytes_under, natural_under}
use Rattle.value.specs.Header.{primary_key, compression_key, version_key, alone, header_alone}
use Rattle.value.proofs.Lookups.{bytes_told, natural_told, there_told}
use Rattle.value.proofs.alone.Goals as goal
use Rattle.value.proofs.alone.Goals.{In_ok-bytes, In_ok-compression, In_ok-version}

bytes_read : (c : In_ok-bytes) → bytes_under primary_key c.args.map.now
    ≡ Some (part c.in_ok-bytes.bytes.start c.in_ok-bytes.bytes.len)
bytes_read c =
    bytes_told _ _ c.args.places.e c.requires.primary
    ∙ sym c.in_ok-bytes.ensures

compression_read : (c : In_ok-compression) → natural_under byte_view compression_key c.args.map.now (Some 0)
    ≡ Some c.in_ok-compression.compression
compression_read c =
    natural_told _ _ c.args.places.c c.requires.compression (Some 0)
    ∙ sym c.in_ok-compression.ensures

version_read : (c : In_ok-version)
    → natural_under byte_view version_key c.args.map.now (Some 0)
    ≡ Some c.in_ok-version.version
version_read c =
    natural_told _ _ c.args.places.v c.requires.version (Some 0)
    ∙ sym c.in_ok-version.ensures

pub bytes_under-requires : goal.bytes_under-requires
bytes_under-requires c = told_inside _ _ c.args.places.e c.requires.primary

pub returns-in_err-bytes : goal.returns-in_err-bytes
unfolding header_alone alone
returns-in_err-bytes c = rw (c.from_residual.ensures, bytes_told _ _ c.args.places.e c.requires.primary ∙ sym c.in_err-bytes.ensures)

pub returns-in_err-compression : goal.returns-in_err-compression
unfolding header_alone alone
returns-in_err-compression c =
    let k = c in
    rw (c.from_residual-in_err-compression.ensures, bytes_read (goal.at.returns-in_err-compression k).In_ok-bytes, natural_told _ _ k.args.places.c k.requires.compression (Some 0) ∙ sym c.in_err-compression.ensures)

pub returns-in_err-version : goal.returns-in_err-version
unfolding header_alone alone
returns-in_err-version c =
    let m = c in
    let k = m in
    rw (c.from_residual-in_err-version.ensures, bytes_read (goal.at.returns-in_err-version k).In_ok-bytes, compression_read (goal.at.returns-in_err-version m).In_ok-compression, natural_told _ _ k.args.places.v k.requires.version (Some 0) ∙ sym c.in_err-version.ensures)

pub returns : goal.returns
unfolding header_alone alone
returns c =
    let v = c in
    let m = v in
    let k = m in
    rw (bytes_read (goal.at.returns k).In_ok-bytes, compression_read (goal.at.returns m).In_ok-compression, version_read (goal.at.returns v).In_ok-version, there_told _ _ k.args.places.z k.requires.encryption)
