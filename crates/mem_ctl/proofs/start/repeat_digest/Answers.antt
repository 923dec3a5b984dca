use Rattle.std.proofs.Common.{◌≡◌, ℕ, ◌*◌, ◌∙◌, List, length, arith, ap, sym, below_more}
use Rattle.pl_base.specs.Bytes.{bytes_at, with_bytes}
use Rattle.pl_digest.specs.Trees.{piece}
use Rattle.mem_geom.proofs.Parts.{bytes_at-with_bytes, bytes_at-with_bytes_before}
use Rattle.mem_ctl.proofs.start.repeat_digest.Goals as goal

pub loop-k-init : goal.loop-k-init
loop-k-init c = record { done = λ j h. absurd (omega arith); size = c.told-digests }

pub loop-k-preserved : goal.loop-k-preserved
loop-k-preserved c =
    let now : List ℕ = c.loop-k.digests in
    let digest : List ℕ = c.args.digest.now in
    let k : ℕ = c.loop-k.k in
    let wide : length c.args.digest.now ≡ 32 = omega arith in
    let size : length c.loop-k.digests ≡ 2048 = c.loop-k.invariant.size in
    record {
      done = below_more (λ (j : ℕ). piece 32 j c.put_bytes.new.all ≡ digest) k
          (λ j h. ap (piece 32 j) c.put_bytes.ensures.bytes ∙ bytes_at-with_bytes_before now (32 * k) digest (omega arith) (32 * j) 32 (omega arith) ∙ c.loop-k.invariant.done j h)
          (ap (piece 32 k) c.put_bytes.ensures.bytes ∙ ap (bytes_at (with_bytes now (32 * k) digest) (32 * k)) (sym wide) ∙ bytes_at-with_bytes now (32 * k) digest (omega arith));
      size = omega (arith, c.put_bytes.ensures.size, size);
    }
