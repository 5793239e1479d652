use Rattle.std.proofs.Common.{◌≡◌, ℕ, ◌+◌, ◌-◌, ◌≤◌, List, ◌++◌, length, take, sym, ap, ◌∙◌, subst, arith, length-append, length-take}
use Rattle.std.proofs.KnownBytes.{Consumes-trans}
use Rattle.std.proofs.Math.Seq.{take-append-add}
use Rattle.std.proofs.lemmas.List.{take-append-le}
use Rattle.std.specs.Io.KnownBytes.{Consumes}
use borrow.Rule.Slice.PartMut.{post_of, put_mid, same_len_mid}
use Rattle.input.proofs.read_input.Goals as goal

-- the front of a list, with the first of what was put behind it
more_read : (n k m : ℕ) (xs ys : List ℕ) → n ≤ length xs → m ≤ length ys → take (n + m) (put_mid n k xs ys) ≡ take n xs ++ take m ys
more_read n k m xs ys low within =
    let behind = ys ++ post_of n k xs in
    let front : length (take n xs) ≡ n = omega (arith, length-take n xs) in
    ap (λ (i : ℕ). take (i + m) (take n xs ++ behind)) (sym front)
    ∙ take-append-add (take n xs) behind m
    ∙ ap (λ (zs : List ℕ). take n xs ++ zs) (take-append-le m ys (post_of n k xs) within)

pub loop-count-preserved : goal.loop-count-preserved
loop-count-preserved g c =
    let n = c.loop-count.count in
    let m = c.in_ok-more.more in
    let xs = c.loop-count.buffer in
    let ys = c.read.new.buf in
    let rest = post_of n (length xs - n) xs in
    let (low, same, so_far) = c.loop-count.invariant in
    let front = more_read n (length xs - n) m xs ys low c.in_ok-more.ensures.bound.0 in
    let all : Consumes (g.R.Read.remaining c.args.input.now) (g.R.Read.remaining c.read.new.self) (take n xs ++ take m ys) = Consumes-trans _ _ _ (take n xs) (take m ys) so_far c.in_ok-more.ensures.bytes.0 in
    let kept : length (put_mid n (length xs - n) xs ys) ≡ length xs = same_len_mid n (length xs - n) xs ys c.read.auto.buf in
    (omega (arith, kept, low, c.in_ok-more.ensures.bound.0, length-take n xs, length-append (take n xs) (ys ++ rest), length-append ys rest), kept ∙ same, subst (Consumes (g.R.Read.remaining c.args.input.now) (g.R.Read.remaining c.read.new.self)) (sym front) all)
