use Rattle.std.proofs.Common.{◌≡◌, map, string_bytes, arith, refl}
use Rattle.session.proofs.SureObjects.{no_read, memory_or}
use Rattle.session.proofs.sure.serve_surely.Goals as goal

pub returns-clause-settled : goal.returns-clause-settled
returns-clause-settled g c =
    let same : c.serve.new.files.files ≡ c.args.files.now.files = cc in
    memory_or c.serve.result _ _
    (no_read (map string_bytes c.args.words.now) c.args.files.now.files c.serve.new.files.files c.args.files.now.asked
    c.serve.new.files.asked c.requires.named same c.requires.fresh c.serve.result c.serve.ensures.asked c.serve.ensures.read)
    (λ e. omega (arith, c.serve.ensures.write.risen e)) (λ p. p) c.serve.ensures.reason

pub returns-clause-told : goal.returns-clause-told
returns-clause-told g c = λ now outcome theirs.
    let same : c.serve.new.files.files ≡ c.args.files.now.files = cc in
    memory_or c.serve.result _ _
    (no_read (map string_bytes c.args.words.now) c.args.files.now.files c.serve.new.files.files c.args.files.now.asked
    c.serve.new.files.asked c.requires.named same c.requires.fresh c.serve.result c.serve.ensures.asked c.serve.ensures.read)
    (λ e. omega (arith, c.serve.ensures.write.risen e))
    (λ p. p) (c.serve.ensures.told _ _ _ now outcome refl refl refl theirs)
