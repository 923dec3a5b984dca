use Rattle.std.proofs.Common.{◌≡◌, ℕ, ◌/◌, ◌%◌, true, false, List, rules}
use Rattle.std.specs.Str.{bytes_eq}
use Rattle.pl_digest.specs.Nodes.{entry}
use Rattle.mem_tree.proofs.WordPaths.{first_break-taken_path}
use Rattle.mem_tree.proofs.taken.first_break.Goals as goal

pub returns-then-not-has_digest_of : goal.returns-then-not-has_digest_of
returns-then-not-has_digest_of g c =
    let d : List ℕ → List ℕ = g.D.Digester.digest_of in
    let t = c.args.taken.now in
    let root : bytes_eq (d t.level4) t.root ≡ true = search rules in
    let test3 : bytes_eq (d t.level3) (entry (t.page % 64 / 8) t.level4) ≡ false = search rules in
    rw (first_break-taken_path t c.requires.block d, root, test3) (search rules)

pub returns-then-not-has_digest_of-2 : goal.returns-then-not-has_digest_of-2
returns-then-not-has_digest_of-2 g c =
    let d : List ℕ → List ℕ = g.D.Digester.digest_of in
    let t = c.args.taken.now in
    let root : bytes_eq (d t.level4) t.root ≡ true = search rules in
    let test3 : bytes_eq (d t.level3) (entry (t.page % 64 / 8) t.level4) ≡ true = search rules in
    let test2 : bytes_eq (d t.level2) (entry (t.page % 64 % 8) t.level3) ≡ false = search rules in
    rw (first_break-taken_path t c.requires.block d, root, test3, test2) (search rules)

pub returns-then-not-has_digest_of-3 : goal.returns-then-not-has_digest_of-3
returns-then-not-has_digest_of-3 g c =
    let d : List ℕ → List ℕ = g.D.Digester.digest_of in
    let t = c.args.taken.now in
    let root : bytes_eq (d t.level4) t.root ≡ true = search rules in
    let test3 : bytes_eq (d t.level3) (entry (t.page % 64 / 8) t.level4) ≡ true = search rules in
    let test2 : bytes_eq (d t.level2) (entry (t.page % 64 % 8) t.level3) ≡ true = search rules in
    let test1 : bytes_eq (d t.level1) (entry (t.block_no / 8) t.level2) ≡ false = search rules in
    rw (first_break-taken_path t c.requires.block d, root, test3, test2, test1) (search rules)

pub returns-then-not-has_digest_of-4 : goal.returns-then-not-has_digest_of-4
returns-then-not-has_digest_of-4 g c =
    let d : List ℕ → List ℕ = g.D.Digester.digest_of in
    let t = c.args.taken.now in
    let root : bytes_eq (d t.level4) t.root ≡ true = search rules in
    let test3 : bytes_eq (d t.level3) (entry (t.page % 64 / 8) t.level4) ≡ true = search rules in
    let test2 : bytes_eq (d t.level2) (entry (t.page % 64 % 8) t.level3) ≡ true = search rules in
    let test1 : bytes_eq (d t.level1) (entry (t.block_no / 8) t.level2) ≡ true = search rules in
    let test0 : bytes_eq (d t.block) (entry (t.block_no % 8) t.level1) ≡ false = search rules in
    rw (first_break-taken_path t c.requires.block d, root, test3, test2, test1, test0) (search rules)

pub returns : goal.returns
returns g c =
    let d : List ℕ → List ℕ = g.D.Digester.digest_of in
    let t = c.args.taken.now in
    let root : bytes_eq (d t.level4) t.root ≡ true = search rules in
    let test3 : bytes_eq (d t.level3) (entry (t.page % 64 / 8) t.level4) ≡ true = search rules in
    let test2 : bytes_eq (d t.level2) (entry (t.page % 64 % 8) t.level3) ≡ true = search rules in
    let test1 : bytes_eq (d t.level1) (entry (t.block_no / 8) t.level2) ≡ true = search rules in
    let test0 : bytes_eq (d t.block) (entry (t.block_no % 8) t.level1) ≡ true = search rules in
    rw (first_break-taken_path t c.requires.block d, root, test3, test2, test1, test0) (search rules)
