-- Files stand for one model at most, or one of them has a fault.
use Rattle.std.proofs.Common.{◌≡◌, ℕ, ◌<◌, inl, inr, List, Option, Some, None, refl, sym, ap, ◌∙◌, subst, arith}
use Rattle.command_words.specs.Command.{Spoken}
use Rattle.outside.specs.Shelf.{Pair}
use Rattle.model_core.specs.Files.{TraLists, LabLists, RewLists}
use Rattle.model_core.specs.Model.{files_chain}
use Rattle.text_lines.specs.declared.fault.FileWhat.{FileWhat}
use Rattle.lab_reader.specs.LabFault.{LabFaultAt}
use Rattle.lab_reader.specs.LabText.{LabSays}
use Rattle.rew_reader.specs.RewFault.{RewFaultAt}
use Rattle.rew_reader.specs.RewText.{RewSays}
use Rattle.tra_reader.specs.TraFault.{TraFaultAt}
use Rattle.tra_reader.specs.TraText.{TraSays}
use Rattle.session.specs.ModelFiles.{TakesTra, TakesLab, TakesRew, TakesModel, LacksWatchedState, IsTraFaulty, IsLabFaulty, IsRewFaulty}
use Rattle.session.specs.ModelFiles.{IsLabFaultyAfter, IsRewFaultyAfter, IsFaultyAt, IsFileFaulty, model_of}
use Rattle.report.specs.declared.model_fault.ModelFault.{ModelFault}
use Rattle.report.specs.declared.model_fault.Which.{Which}
use Rattle.report.specs.declared.model_fault.Which.TheVariants.{TraFile, LabFile, RewFile}
use Rattle.lab_reader.proofs.Readings.{lab_reading}
use Rattle.rew_reader.proofs.Readings.{rew_reading}
use Rattle.tra_reader.proofs.Readings.{tra_reading}
use Rattle.session.proofs.OneFile as file

module _ (pairs : List Pair) where
  one_tra : (name : List ℕ) (a b : TraLists) → TakesTra name (Some pairs) a → TakesTra name (Some pairs) b → a ≡ b
  one_tra name a b p q = file.one_value pairs name TraSays TraFaultAt tra_reading a b p q

  one_lab : (n : ℕ) (name : List ℕ) (a b : LabLists) → TakesLab n name (Some pairs) a → TakesLab n name (Some pairs) b → a ≡ b
  one_lab n name a b p q =
      file.one_value pairs name (λ text a. LabSays text n a) (λ text. LabFaultAt text n) (λ text. lab_reading text n) a b p q

  one_rew : (n : ℕ) (name : Option (List ℕ)) (a b : Option RewLists) → TakesRew n name (Some pairs) a → TakesRew n name (Some pairs) b
      → a ≡ b
  one_rew n None None None p q = refl
  one_rew n None None (Some b) p q = absurd q
  one_rew n None (Some a) b p q = absurd p
  one_rew n (Some name) None b p q = absurd p
  one_rew n (Some name) (Some a) None p q = absurd q
  one_rew n (Some name) (Some a) (Some b) p q =
      ap Some (file.one_value pairs name (λ text a. RewSays text n a) (λ text. RewFaultAt text n) (λ text. rew_reading text n) a b p q)

  -- a chain that has the state isn't one that lacks it
  not_lacking : (name : List ℕ) (state : ℕ) (a : TraLists) (line : ℕ) (what : FileWhat) → TakesTra name (Some pairs) a → state < a.n
      → LacksWatchedState name (Some pairs) state line what → ⊥
  not_lacking name state a line what p has q = omega (arith, has, q.lacks, ap (λ t. t.n) (one_tra name a q.tra p q.takes))

  no_tra_fault : (name : List ℕ) (state : ℕ) (a : TraLists) (line : ℕ) (what : FileWhat) → TakesTra name (Some pairs) a → state < a.n
      → IsTraFaulty name (Some pairs) state line what → ⊥
  no_tra_fault name state a line what p has (inl q) = file.no_fault pairs name TraSays TraFaultAt tra_reading a line what p q
  no_tra_fault name state a line what p has (inr q) = not_lacking name state a line what p has q

  one_tra_fault : (name : List ℕ) (state k l : ℕ) (v w : FileWhat) → IsTraFaulty name (Some pairs) state k v
      → IsTraFaulty name (Some pairs) state l w
      → (k ≡ l) × (v ≡ w)
  one_tra_fault name state k l v w (inl p) (inl q) = file.one_fault pairs name TraSays TraFaultAt tra_reading k l v w p q
  one_tra_fault name state k l v w (inl p) (inr q) =
      absurd (file.no_fault pairs name TraSays TraFaultAt tra_reading q.tra k v q.takes p)
  one_tra_fault name state k l v w (inr p) (inl q) =
      absurd (file.no_fault pairs name TraSays TraFaultAt tra_reading p.tra l w p.takes q)
  one_tra_fault name state k l v w (inr p) (inr q) = (p.at_no_line ∙ sym q.at_no_line, p.told ∙ sym q.told)

  no_lab_fault : (n : ℕ) (name : List ℕ) (a : LabLists) (line : ℕ) (what : FileWhat) → TakesLab n name (Some pairs) a
      → IsLabFaulty n name (Some pairs) line what → ⊥
  no_lab_fault n name a line what p q =
      file.no_fault pairs name (λ text a. LabSays text n a) (λ text. LabFaultAt text n) (λ text. lab_reading text n) a line what p q

  no_rew_fault : (n : ℕ) (name : Option (List ℕ)) (a : Option RewLists) (line : ℕ) (what : FileWhat) → TakesRew n name (Some pairs) a
      → IsRewFaulty n name (Some pairs) line what → ⊥
  no_rew_fault n None a line what p q = q
  no_rew_fault n (Some name) None line what p q = p
  no_rew_fault n (Some name) (Some a) line what p q =
      file.no_fault pairs name (λ text a. RewSays text n a) (λ text. RewFaultAt text n) (λ text. rew_reading text n) a line what p q

  one_rew_fault : (n : ℕ) (name : Option (List ℕ)) (k l : ℕ) (v w : FileWhat) → IsRewFaulty n name (Some pairs) k v
      → IsRewFaulty n name (Some pairs) l w
      → (k ≡ l) × (v ≡ w)
  one_rew_fault n None k l v w p q = absurd p
  one_rew_fault n (Some name) k l v w p q =
      file.one_fault pairs name (λ text a. RewSays text n a) (λ text. RewFaultAt text n) (λ text. rew_reading text n) k l v w p q

  -- both readings of the files are the same
  pub record SameModel (command : Spoken) (a b : TakesModel command (Some pairs)) : Type 0 where
    pub tra : a.tra ≡ b.tra
    pub lab : a.lab ≡ b.lab
    pub rew : a.rew ≡ b.rew

  module _ (command : Spoken) where
    -- the labels that follow one chain follow the other
    lab_after : (t u : TraLists) (a b : LabLists) → t ≡ u → TakesLab t.n command.lab (Some pairs) a
        → TakesLab u.n command.lab (Some pairs) b → a ≡ b
    lab_after t u a b e p q = one_lab t.n command.lab a b p (subst (λ x. TakesLab x.n command.lab (Some pairs) b) (sym e) q)

    -- and so do the rewards
    rew_after : (t u : TraLists) (a b : Option RewLists) → t ≡ u → TakesRew t.n command.rew (Some pairs) a
        → TakesRew u.n command.rew (Some pairs) b → a ≡ b
    rew_after t u a b e p q = one_rew t.n command.rew a b p (subst (λ x. TakesRew x.n command.rew (Some pairs) b) (sym e) q)

    pub one_model : (a b : TakesModel command (Some pairs)) → SameModel command a b
    one_model a b =
        let tra : a.tra ≡ b.tra = one_tra command.tra a.tra b.tra a.takes_tra b.takes_tra in
        record {
          tra = tra;
          lab = lab_after a.tra b.tra a.lab b.lab tra a.takes_lab b.takes_lab;
          rew = rew_after a.tra b.tra a.rew b.rew tra a.takes_rew b.takes_rew;
        }

    pub one_chain : (a b : TakesModel command (Some pairs)) → model_of a ≡ model_of b
    one_chain a b =
        let same = one_model a b in
        ap (λ tra. files_chain tra a.lab a.rew) same.tra
        ∙ ap (λ lab. files_chain b.tra lab a.rew) same.lab
        ∙ ap (files_chain b.tra b.lab) same.rew

    -- files that stand for a model have no fault
    pub no_model_fault : (a : TakesModel command (Some pairs)) (f : Which) (line : ℕ) (what : FileWhat)
        → IsFaultyAt command (Some pairs) f line what → ⊥
    no_model_fault a TraFile line what h = no_tra_fault command.tra command.options.state a.tra line what a.takes_tra a.has_state h
    no_model_fault a LabFile line what h =
        no_lab_fault a.tra.n command.lab a.lab line what a.takes_lab
        (subst (λ t. IsLabFaulty t.n command.lab (Some pairs) line what) (one_tra command.tra h.tra a.tra h.takes_tra a.takes_tra) h.faulty)
    no_model_fault a RewFile line what h =
        no_rew_fault a.tra.n command.rew a.rew line what a.takes_rew
        (subst (λ t. IsRewFaulty t.n command.rew (Some pairs) line what) (one_tra command.tra h.tra a.tra h.takes_tra a.takes_tra) h.faulty)

    -- one file is the first that has a fault
    not_both_files : (k l : ℕ) (v w : FileWhat) → IsLabFaultyAfter command (Some pairs) k v → IsRewFaultyAfter command (Some pairs) l w
        → ⊥
    not_both_files k l v w p q =
        no_lab_fault q.tra.n command.lab q.lab k v q.takes_lab
        (subst (λ t. IsLabFaulty t.n command.lab (Some pairs) k v) (one_tra command.tra p.tra q.tra p.takes_tra q.takes_tra) p.faulty)

    one_fault_at : (f g : Which) (k l : ℕ) (v w : FileWhat) → IsFaultyAt command (Some pairs) f k v → IsFaultyAt command (Some pairs) g l w
        → (f ≡ g) × (k ≡ l) × (v ≡ w)
    one_fault_at TraFile TraFile k l v w p q =
        let same = one_tra_fault command.tra command.options.state k l v w p q in
        (refl, same.0, same.1)
    one_fault_at TraFile LabFile k l v w p q = absurd (no_tra_fault command.tra command.options.state q.tra k v q.takes_tra q.has_state p)
    one_fault_at TraFile RewFile k l v w p q = absurd (no_tra_fault command.tra command.options.state q.tra k v q.takes_tra q.has_state p)
    one_fault_at LabFile TraFile k l v w p q = absurd (no_tra_fault command.tra command.options.state p.tra l w p.takes_tra p.has_state q)
    one_fault_at LabFile LabFile k l v w p q =
        let same =
        file.one_fault pairs command.lab (λ text a. LabSays text q.tra.n a) (λ text. LabFaultAt text q.tra.n)
        (λ text. lab_reading text q.tra.n) k l v w
        (subst (λ t. IsLabFaulty t.n command.lab (Some pairs) k v) (one_tra command.tra p.tra q.tra p.takes_tra q.takes_tra) p.faulty)
        q.faulty
        in
        (refl, same.0, same.1)
    one_fault_at LabFile RewFile k l v w p q = absurd (not_both_files k l v w p q)
    one_fault_at RewFile TraFile k l v w p q = absurd (no_tra_fault command.tra command.options.state p.tra l w p.takes_tra p.has_state q)
    one_fault_at RewFile LabFile k l v w p q = absurd (not_both_files l k w v q p)
    one_fault_at RewFile RewFile k l v w p q =
        let same =
        one_rew_fault q.tra.n command.rew k l v w
        (subst (λ t. IsRewFaulty t.n command.rew (Some pairs) k v) (one_tra command.tra p.tra q.tra p.takes_tra q.takes_tra) p.faulty)
        q.faulty
        in
        (refl, same.0, same.1)

    fault_of : Which → ℕ → FileWhat → ModelFault
    fault_of f line what = record { file = f; line = line; what = what }

    same_model_fault : (a b : ModelFault) → a.file ≡ b.file → a.line ≡ b.line → a.what ≡ b.what → a ≡ b
    unfolding fault_of
    same_model_fault a b p q r = ap (λ x. fault_of x a.line a.what) p ∙ ap (λ y. fault_of b.file y a.what) q ∙ ap (fault_of b.file b.line) r

    pub one_model_fault : (a b : ModelFault) → IsFileFaulty command (Some pairs) a → IsFileFaulty command (Some pairs) b → a ≡ b
    one_model_fault a b p q =
        let same = one_fault_at a.file b.file a.line b.line a.what b.what p q in
        same_model_fault a b same.0 same.1 same.2
