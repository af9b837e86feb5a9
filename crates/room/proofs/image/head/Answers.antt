-- `room::image::head` meets its contract: length, header, length against count, in their order. Assumes nothing.
use Rattle.std.proofs.Common.{List, ℕ, ◌%◌, ◌≡◌, ◌≤◌, length}
use Rattle.std.proofs.lemmas.Result.{err_from_is_err_and}
use Rattle.seal.specs.Seal.{block_at}
use Rattle.room.specs.Image.{Whole}
use Rattle.room.proofs.Images.{no_header, head_good, head_bad}
use Rattle.room.proofs.image.head.Goals as goal

whole : (image : List ℕ) → length image % 512 ≡ 0 → 512 ≤ length image → length image ≤ 65024 → Whole image
whole image e f g = record { whole = e; above = f; below = g }

pub returns-in_err-count : goal.returns-in_err-count
unfolding block_at
returns-in_err-count c =
    let image = c.args.image.now in
    let p = err_from_is_err_and c.from_residual.result c.from_residual.ensures.1 in
    rw p.1 (no_header image (whole image c.if-size-ne0.false c.if-size-lt-SIZE.false c.if-size-gt65024.false) _ c.in_err-count.ensures p.0 p.2)

pub returns-then-size-count : goal.returns-then-size-count
unfolding block_at
returns-then-size-count c =
    let image = c.args.image.now in
    head_good image (whole image c.if-size-ne0.false c.if-size-lt-SIZE.false c.if-size-gt65024.false) _ c.in_ok-count.ensures c.if-size-count.true

pub returns-else-size-count : goal.returns-else-size-count
unfolding block_at
returns-else-size-count c =
    let image = c.args.image.now in
    head_bad image (whole image c.if-size-ne0.false c.if-size-lt-SIZE.false c.if-size-gt65024.false) _ c.in_ok-count.ensures c.if-size-count.false _ c.into-else-size-count.ensures
