use Rattle.std.proofs.Common.{◌≡◌, ℕ, ◌%◌, List, rules, ap, ◌∙◌, sym, subst}
use Rattle.byteorder.specs.Endian.{little_bytes}
use Rattle.mem_tree.specs.Words.{part_bytes, parts_of}
use Rattle.mem_ctl.specs.Calls.{told, with_part}
use Rattle.mem_ctl.specs.Data.{CtlData}
use Rattle.mem_ctl.specs.Opened.{word_of_taken}
use Rattle.mem_ctl.specs.TreesHold.{IsKept}
use Rattle.mem_ctl.specs.Words.{IsNewPath, stored}
use Rattle.mem_ctl.proofs.WordCalls.{stored-parts}
use Rattle.mem_ctl.proofs.ctl.Ctl.obey.Goals as goal

pub store-requires-clause-kept : goal.store-requires-clause-kept
store-requires-clause-kept g c =
    let d = g.D.Digester.digest_of in
    let t = c.args.sealed.now in
    let x : CtlData = c.args.self.now.0 in
    let at : ℕ = c.in-Write.offset % 64 in
    let part : List ℕ = little_bytes c.in-Write.width c.in-Write.value in
    let path = c.with_part-path.result in
    let own : IsNewPath d (parts_of t) t.page t.block_no at part path = search rules in
    let is : with_part d (part_bytes (parts_of t)) t.page t.block_no at part x ≡ stored x t.page t.block_no path = stored-parts d x t.page t.block_no at part (parts_of t) path c.taken-taken.ensures.in_range.block own in
    let told_is : told d (word_of_taken t) c.args.op x ≡ stored x t.page t.block_no path = ap (λ o. told d (word_of_taken t) o x) c.in-Write.is ∙ is in
    subst (λ s. IsKept d (stored x s.page s.block_no path)) (sym c.taken-taken.ensures.taken) (subst (IsKept d) told_is c.requires.kept)

pub returns-in-Write : goal.returns-in-Write
returns-in-Write g c =
    let d = g.D.Digester.digest_of in
    let t = c.args.sealed.now in
    let x : CtlData = c.args.self.now.0 in
    let at : ℕ = c.in-Write.offset % 64 in
    let part : List ℕ = little_bytes c.in-Write.width c.in-Write.value in
    let path = c.with_part-path.result in
    let own : IsNewPath d (parts_of t) t.page t.block_no at part path = search rules in
    let is : with_part d (part_bytes (parts_of t)) t.page t.block_no at part x ≡ stored x t.page t.block_no path = stored-parts d x t.page t.block_no at part (parts_of t) path c.taken-taken.ensures.in_range.block own in
    let told_is : told d (word_of_taken t) c.args.op x ≡ stored x t.page t.block_no path = ap (λ o. told d (word_of_taken t) o x) c.in-Write.is ∙ is in
    c.store.ensures ∙ (λ i. (stored x (c.taken-taken.ensures.taken i).page (c.taken-taken.ensures.taken i).block_no path, c.args.self.now.1)) ∙ (λ i. (sym told_is i, c.args.self.now.1))
