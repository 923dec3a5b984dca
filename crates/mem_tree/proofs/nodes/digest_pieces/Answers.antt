use Rattle.std.proofs.Common.{◌≡◌, ℕ, ◌+◌, ◌-◌, ◌*◌, List, map, take, drop, ap, ◌∙◌, arith}
use Rattle.std.specs.List.{concat}
use Rattle.pl_digest.specs.Trees.{piece, pieces}
use Rattle.mem_tree.proofs.DigestSteps.{digests_none, digests_more, digests_all}
use borrow.Rule.Slice.PartMut.{put_mid}
use Rattle.mem_tree.proofs.nodes.digest_pieces.Goals as goal

pub loop-k-init : goal.loop-k-init
loop-k-init g c = digests_none g.D.Digester.digest_of g.met.D.Digester.digest_length c.args.bytes.now c.args.into.now c.args.size

pub loop-k-preserved : goal.loop-k-preserved
loop-k-preserved g c =
    let d : List ℕ → List ℕ = g.D.Digester.digest_of in
    let k : ℕ = c.loop-k.k in
    let size : ℕ = c.args.size in
    let width : size * k + size - size * k ≡ size = omega arith in
    let written : c.copy_from_slice.new.self ≡ d (piece size k c.args.bytes.now) =
    c.copy_from_slice.ensures.after ∙ c.digest-digest.ensures ∙ ap (λ (n : ℕ). d (take n (drop (size * k) c.args.bytes.now))) width in
    ap (put_mid (32 * k) (32 * k + 32 - 32 * k) c.loop-k.into) written
    ∙ digests_more d g.met.D.Digester.digest_length c.args.bytes.now c.args.into.now size k (32 * k + 32 - 32 * k) c.loop-k.into (omega arith) c.loop-k.invariant

pub returns : goal.returns
returns g c =
    let d : List ℕ → List ℕ = g.D.Digester.digest_of in
    let last : c.loop-k.k ≡ c.args.count = omega arith in
    digests_all d g.met.D.Digester.digest_length c.args.bytes.now c.args.into.now c.args.size c.loop-k.k c.loop-k.into (omega arith) c.loop-k.invariant
    ∙ ap (λ (n : ℕ). concat (map d (pieces c.args.size n c.args.bytes.now))) last
