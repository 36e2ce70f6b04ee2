-- Names that are declared one after another.
use Rattle.std.proofs.Common.{◌≡◌, ◌≢◌, ℕ, ◌+◌, IsTrue, List, [], ◌∷◌, ◌++◌, length, ap, refl, sym, subst, ◌∙◌, append_assoc, append-nil}
use Rattle.std.proofs.Common.{length-append, arith}
use Rattle.std.specs.List.{Contains}
use Rattle.std.proofs.lemmas.List.Elements.{All-nil, All-push, Contains-get_or}
use Rattle.std.proofs.lemmas.List.Quantifiers.{all_pairs_push}
use Rattle.text_lines.specs.Name.{is_name}
use Rattle.text_lines.specs.declared.fault.FileWhat.{FileWhat}
use Rattle.lab_reader.specs.Declarations.{AreNames}
use Rattle.lab_reader.specs.LabFault.{NameFailsBy, HasFailingWord}
use Rattle.lab_reader.specs.Reading.{IsFreshName}

-- no names are right
pub names_none : AreNames []
names_none = record {
  each = All-nil (λ (word : List ℕ). IsTrue (is_name word));
  distinct = λ i j d l k. absurd (omega arith);
  few = omega arith;
}

-- one name more
pub names_more : (names : List (List ℕ)) (word : List ℕ) → AreNames names → IsFreshName names word → AreNames (names ++ word ∷ [])
names_more names word are fresh =
    let long : length (names ++ word ∷ []) ≡ length names + 1 = length-append names (word ∷ []) in
    record {
      each = All-push (λ w. IsTrue (is_name w)) names word are.each fresh.is_name;
      distinct =
          all_pairs_push ◌≢◌ names word are.distinct (λ k d l e. fresh.is_new (subst (Contains names) e (Contains-get_or names k d l)));
      few = omega (arith, are.few, fresh.room);
    }

-- the words before those that are left were right, and they are declared
pub record HasTaken (names words now left : List (List ℕ)) : Type 0 where
  pub earlier : List (List ℕ)
  pub split : words ≡ earlier ++ left
  pub are : now ≡ names ++ earlier
  pub right : AreNames now

pub taken_none : (names words : List (List ℕ)) → AreNames names → HasTaken names words names words
taken_none names words right = record { earlier = []; split = refl; are = sym (append-nil names); right = right }

pub taken_more : (names words now left : List (List ℕ)) (word : List ℕ) → HasTaken names words now (word ∷ left) → IsFreshName now word
    → HasTaken names words (now ++ word ∷ []) left
taken_more names words now left word h fresh = record {
  earlier = h.earlier ++ word ∷ [];
  split = h.split ∙ sym (append_assoc h.earlier (word ∷ []) left);
  are = ap (λ z. z ++ word ∷ []) h.are ∙ append_assoc names h.earlier (word ∷ []);
  right = names_more now word h.right fresh;
}

-- the words were all right
pub taken_all : (names words now : List (List ℕ)) → HasTaken names words now [] → now ≡ names ++ words
taken_all names words now h = h.are ∙ ap (λ z. names ++ z) (sym (h.split ∙ append-nil h.earlier))

-- the next word fails
pub taken_fails : (names words now left : List (List ℕ)) (word : List ℕ) (fault : FileWhat) → HasTaken names words now (word ∷ left)
    → NameFailsBy now word fault → HasFailingWord names words fault
taken_fails names words now left word fault h fails = record {
  earlier = h.earlier;
  word = word;
  later = left;
  split = h.split;
  right = subst AreNames h.are h.right;
  fails = subst (λ z. NameFailsBy z word fault) h.are fails;
}
