use Rattle.std.proofs.Common.{◌≡◌, ℕ, ◌+◌, ◌/◌, ◌%◌, ◌<◌, ◌≤◌, List, length, rules, ap, ◌∙◌, arith}
use Rattle.byteorder.specs.Endian.{little_bytes}
use Rattle.byteorder.specs.Numbers.{length-bytes_low_first}
use Rattle.pl_base.specs.Bytes.{with_bytes}
use Rattle.pl_digest.specs.Nodes.{with_entry}
use Rattle.mem_tree.specs.declared.new_path.NewPath.{NewPath}
use Rattle.mem_tree.specs.Words.{parts_of}
use Rattle.mem_tree.proofs.WordChanges.{parts_with, parts_with-word_path, same_paths}
use Rattle.mem_tree.proofs.sealed.Sealed.with_part.Goals as goal

pub returns-clause-tree : goal.returns-clause-tree
returns-clause-tree g c = λ pages zone before.
    let d : List ℕ → List ℕ = g.D.Digester.digest_of in
    let taken = c.args.self.now in
    let part : List ℕ = little_bytes c.args.width c.args.value in
    let old : NewPath = parts_of taken in
    let block : c.block_with_part-block.result ≡ with_bytes taken.block c.args.offset part = search rules in
    let level1 : c.with_digest_of-level1.result ≡ with_entry (taken.block_no % 8) (d c.block_with_part-block.result) taken.level1 = search rules in
    let level2 : c.with_digest_of-level2.result ≡ with_entry (taken.block_no / 8) (d c.with_digest_of-level1.result) taken.level2 = search rules in
    let level3 : c.with_digest_of-level3.result ≡ with_entry (taken.page % 8) (d c.with_digest_of-level2.result) taken.level3 = search rules in
    let level4 : c.with_digest_of-level4.result ≡ with_entry (taken.page % 64 / 8) (d c.with_digest_of-level3.result) taken.level4 = search rules in
    let inside : c.args.offset + length part ≤ 64 = omega (arith, length-bytes_low_first 0 c.args.width c.args.value, c.requires.part.is_inside) in
    let in_page : taken.block_no < 64 = rw c.self.view_is at c.self.invariant.in_range.block in
    let new : NewPath = parts_with d g.met.D.Digester.digest_length old c.args.offset part (taken.block_no % 8) (taken.block_no / 8) (taken.page % 8) (taken.page % 64 / 8) in
    let is1 : c.with_digest_of-level1.result ≡ new.level1 = level1 ∙ ap (λ (q : List ℕ). with_entry (taken.block_no % 8) (d q) taken.level1) block in
    let is2 : c.with_digest_of-level2.result ≡ new.level2 = level2 ∙ ap (λ (q : List ℕ). with_entry (taken.block_no / 8) (d q) taken.level2) is1 in
    let is3 : c.with_digest_of-level3.result ≡ new.level3 = level3 ∙ ap (λ (q : List ℕ). with_entry (taken.page % 8) (d q) taken.level3) is2 in
    let is4 : c.with_digest_of-level4.result ≡ new.level4 = level4 ∙ ap (λ (q : List ℕ). with_entry (taken.page % 64 / 8) (d q) taken.level4) is3 in
    same_paths (record {
      block = c.block_with_part-block.result;
      level1 = c.with_digest_of-level1.result;
      level2 = c.with_digest_of-level2.result;
      level3 = c.with_digest_of-level3.result;
      level4 = c.with_digest_of-level4.result;
      root = c.digest-root.result;
    }) new block is1 is2 is3 is4 (c.digest-root.ensures ∙ ap d is4)
    ∙ ap (λ (q : NewPath). parts_with d g.met.D.Digester.digest_length q c.args.offset part (taken.block_no % 8) (taken.block_no / 8) (taken.page % 8) (taken.page % 64 / 8)) before
    ∙ parts_with-word_path d g.met.D.Digester.digest_length pages taken.page taken.block_no c.args.offset part zone in_page inside
