use Rattle.std.proofs.Common.{◌∙◌, [], ◌∷◌, subst, ap}
use Rattle.command_words.specs.Command.{spoken_by, text_in}
use Rattle.session.specs.ModelFiles.{TakesRew}
use Rattle.session.proofs.Readings.{takes_tra, takes_lab, takes_rew, rew_length, told_both, asks_err, asks_whole, asks_then, asks_after, asks_front, asked_same, front_same}
use Rattle.session.proofs.model_files.read_model.Goals as goal

pub returns-in_err-lab-clause-asked : goal.returns-in_err-lab-clause-asked
returns-in_err-lab-clause-asked g c =
    let spoken = spoken_by c.args.command.now in
    told_both _ _ _ _ _ c.in_ok-tra.ensures.files
    (λ p q. asks_err _ _ _ _ c.from_residual-in_err-lab.ensures.0
    (asks_front _ (spoken.tra ∷ spoken.lab ∷ []) (text_in spoken.rew) _
    (asks_after _ (spoken.tra ∷ []) (spoken.lab ∷ []) _ _ p q)))
    (asked_same _ _ _ _ _ (ap (λ n. n ∷ []) c.deref.ensures) c.in_ok-tra.ensures.asked)
    (front_same _ _ _ _ _ (ap (λ n. n ∷ []) c.deref-2.ensures) c.in_err-lab.ensures.asked)

pub returns-in_err-rew-clause-asked : goal.returns-in_err-rew-clause-asked
returns-in_err-rew-clause-asked g c =
    let spoken = spoken_by c.args.command.now in
    told_both _ _ _ _ _ (c.in_ok-lab.ensures.files ∙ c.in_ok-tra.ensures.files)
    (λ p q. asks_err _ _ _ _ c.from_residual-in_err-rew.ensures.0
    (asks_after _ (spoken.tra ∷ spoken.lab ∷ []) (text_in spoken.rew) _ _ p q))
    (told_both _ _ _ _ _ c.in_ok-tra.ensures.files
    (λ p q. asks_then _ (spoken.tra ∷ []) (spoken.lab ∷ []) _ _ p q)
    (asked_same _ _ _ _ _ (ap (λ n. n ∷ []) c.deref.ensures) c.in_ok-tra.ensures.asked)
    (asked_same _ _ _ _ _ (ap (λ n. n ∷ []) c.deref-2.ensures) c.in_ok-lab.ensures.asked))
    (front_same _ _ _ _ _ (ap text_in c.rew_name.ensures) c.in_err-rew.ensures.asked)

pub build-requires-clause-rewards : goal.build-requires-clause-rewards
build-requires-clause-rewards g c = λ rew is.
    let spoken = spoken_by c.args.command.now in
    rew_length c.in-Ok.tra.n spoken.rew (g.F.Files.files c.args.files.now) rew
    (subst (TakesRew c.in-Ok.tra.n spoken.rew (g.F.Files.files c.args.files.now)) is
    (takes_rew _ _ _ _ _ c.in-Ok.tra c.in-Ok-3.rew _ c.rew_name.ensures (c.in_ok-lab.ensures.files ∙ c.in_ok-tra.ensures.files)
    c.n-2.ensures.value c.in-Ok-3.is c.in_ok-rew.ensures.rew))

pub returns-in_err-model-clause-asked : goal.returns-in_err-model-clause-asked
returns-in_err-model-clause-asked g c =
    let spoken = spoken_by c.args.command.now in
    told_both _ _ _ _ _ (c.in_ok-lab.ensures.files ∙ c.in_ok-tra.ensures.files)
    (λ p q. asks_err _ _ _ _ c.from_residual-in_err-model.ensures.0
    (asks_whole _ _ _ (asks_then _ (spoken.tra ∷ spoken.lab ∷ []) (text_in spoken.rew) _ _ p q)))
    (told_both _ _ _ _ _ c.in_ok-tra.ensures.files
    (λ p q. asks_then _ (spoken.tra ∷ []) (spoken.lab ∷ []) _ _ p q)
    (asked_same _ _ _ _ _ (ap (λ n. n ∷ []) c.deref.ensures) c.in_ok-tra.ensures.asked)
    (asked_same _ _ _ _ _ (ap (λ n. n ∷ []) c.deref-2.ensures) c.in_ok-lab.ensures.asked))
    (asked_same _ _ _ _ _ (ap text_in c.rew_name.ensures) c.in_ok-rew.ensures.asked)

pub returns-clause-model : goal.returns-clause-model
returns-clause-model g c =
    let tra = takes_tra _ _ _ _ c.in-Ok.tra _ c.deref.ensures c.in-Ok.is c.in_ok-tra.ensures.tra in
    record {
      takes = record {
        tra = c.in-Ok.tra;
        lab = c.in-Ok-2.lab;
        rew = c.in-Ok-3.rew;
        takes_tra = tra.0;
        has_state = tra.1;
        takes_lab =
            takes_lab _ _ _ _ _ c.in-Ok.tra c.in-Ok-2.lab _ c.deref-2.ensures c.in_ok-tra.ensures.files c.n.ensures.value c.in-Ok-2.is
            c.in_ok-lab.ensures.lab;
        takes_rew =
            takes_rew _ _ _ _ _ c.in-Ok.tra c.in-Ok-3.rew _ c.rew_name.ensures (c.in_ok-lab.ensures.files ∙ c.in_ok-tra.ensures.files)
            c.n-2.ensures.value c.in-Ok-3.is c.in_ok-rew.ensures.rew;
      };
      built = c.in_ok-model.ensures.built;
    }

pub returns-clause-asked : goal.returns-clause-asked
returns-clause-asked g c =
    let spoken = spoken_by c.args.command.now in
    told_both _ _ _ _ _ (c.in_ok-lab.ensures.files ∙ c.in_ok-tra.ensures.files)
    (λ p q. asks_then _ (spoken.tra ∷ spoken.lab ∷ []) (text_in spoken.rew) _ _ p q)
    (told_both _ _ _ _ _ c.in_ok-tra.ensures.files
    (λ p q. asks_then _ (spoken.tra ∷ []) (spoken.lab ∷ []) _ _ p q)
    (asked_same _ _ _ _ _ (ap (λ n. n ∷ []) c.deref.ensures) c.in_ok-tra.ensures.asked)
    (asked_same _ _ _ _ _ (ap (λ n. n ∷ []) c.deref-2.ensures) c.in_ok-lab.ensures.asked))
    (asked_same _ _ _ _ _ (ap text_in c.rew_name.ensures) c.in_ok-rew.ensures.asked)
