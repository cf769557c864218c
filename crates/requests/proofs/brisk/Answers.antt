use native.Mathlib.Omega.{arith}
use Rattle.frames.specs.Fed.{FedContent}
use Rattle.record.specs.Sound.{cells_in}
use Rattle.requests.specs.Reply.{Open}
use Rattle.requests.specs.Feeds.{feed-content}
use Rattle.requests.proofs.brisk.Goals as goal

pub returns : goal.returns
returns c =
    let g = c.args in
    let s = c.in_body.ensures c.if-not-in_body.false in
    let o : Open g.r = record { sound = s.0; kind = s.1.kind } in
    let e = c.cells_in.ensures in
    let f : FedContent (cells_in g.r) g.piece.now g.allow _ = rw e at c.in_ok-b.ensures in
    feed-content g.r o g.piece.now g.allow (λ x. omega (arith, x, s.2)) (λ x. omega (arith, x, s.2)) _ f.1.0 (λ code x. let y = f.0 in cc) s.1 f.1.1 f.0 c.in_content.ensures
