-- What a scheme means, and its laws. Assumes nothing.
use Rattle.std.specs.Prelude.{◌≡◌, ℕ, ◌+◌, ◌<◌, ◌≤◌, min, max, Bool, true, false, not, cond, ◌||◌, List, [], ◌∷◌, map, filter, All, Any, length, take, drop, is_ok, Some, None, Ok, Err, Option, Result, nat_lt}
use Rattle.std.specs.List.Sorted.{IsStrictlyIncreasing}
use Rattle.refusals.specs.Limits.{max_members, max_message, max_attestations, max_signature}
use Rattle.refusals.specs.declared.refusal.Refusal.{Refusal}
use Rattle.refusals.specs.declared.refusal.Refusal.TheVariants.{UnknownSigner, DuplicateSigner, MalformedSignature, InsufficientAttestations, SmallBuffer, TooMany}
use Rattle.keys.specs.Bytes.{overlaid}
use Rattle.keys.specs.Signed.{signed}
use Rattle.groups.specs.declared.weights.Weight.{Weight}
use Rattle.rolls.specs.Bitmap.{among}
use Rattle.schemes.specs.declared.attestation.Attestation.{Attestation}
use Rattle.schemes.specs.declared.attestation.Verification.{Verification}
use Rattle.schemes.specs.Subjects.{Said}
use Rattle.schemes.specs.Judging.{Judging, Parts, named}

-- a member, and the bytes of a signature
abbrev pub Mark : Type 0
Mark = ℕ × List ℕ

abbrev pub mark : Attestation → Mark
mark a = (a.signer, signed a.signature)

abbrev pub signers : List Mark → List ℕ
signers xs = map (λ x. x.0) xs

pub record Meaning : Type 1 where
  pub judging : Judging
  pub quorum : ℕ
  pub width : ℕ
  pub decodes : List ℕ → Bool
  -- of subject, member and signature
  pub good : Said → ℕ → List ℕ → Bool
  -- the certificate of some marks
  pub assembled : List Mark → Parts
  -- its bytes, and the most bytes of a certificate of this roll
  pub written : Parts → List ℕ
  pub max_size : ℕ
  -- which member is reported of a list that repeats one
  pub repeated : List ℕ → ℕ
  -- how many weights the attestations of a list take
  pub draws : List Mark → ℕ
  -- the weights still to come tell every mark of the list that is not good
  pub separate : Said → List Mark → (ℕ → Weight) → Type 0

abbrev pub has_repeat : List ℕ → Bool
has_repeat [] = false
has_repeat (x ∷ xs) = among x xs || has_repeat xs

-- the marks of members who are not among some
abbrev pub without : List ℕ → List Mark → List Mark
without out xs = filter (λ x. not (among x.0 out)) xs

module _ (m : Meaning) where
  -- the first item that is no member's, or does not decode
  abbrev pub first_fault : List Mark → Option Refusal
  first_fault [] = None
  first_fault (x ∷ xs) =
      cond (nat_lt x.0 m.judging.members)
      (cond (m.decodes x.1) (first_fault xs) (Some (MalformedSignature x.0)))
      (Some (UnknownSigner x.0))

  abbrev pub joined : List Mark → Option Refusal → Result Parts Refusal
  joined xs (Some e) = Err e
  joined xs None =
      cond (has_repeat (signers xs)) (Err (DuplicateSigner (m.repeated (signers xs))))
      (cond (nat_lt (length xs) m.quorum) (Err (InsufficientAttestations m.quorum (length xs))) (Ok (m.assembled xs)))

  -- what assemble answers: too many, the first bad item, a repeated member, too few, or the certificate
  abbrev pub assembly : List Mark → Result Parts Refusal
  assembly xs = cond (nat_lt max_attestations (length xs)) (Err (TooMany max_attestations)) (joined xs (first_fault xs))

  -- what write answers, and the buffer after it
  abbrev pub room : Parts → ℕ
  room p = max m.max_size (length (m.written p))

  pub record Written (p : Parts) (before after : List ℕ) (r : Result ℕ Refusal) : Type 0 where
    pub answer : r ≡ cond (nat_lt (length before) (room p)) (Err (SmallBuffer (room p))) (Ok (length (m.written p)))
    pub buffer : after ≡ cond (is_ok r) (overlaid before 0 (m.written p)) before

  -- what verify_attestation answers
  abbrev pub attested : Said → Mark → Result Bool Refusal
  attested t x = cond (nat_lt max_message (length t.message)) (Err (TooMany max_message)) (Ok (m.good t x.0 x.1))

  -- the members that verify_attestations lists: each has an attestation that is not good; with separating weights these are all
  pub record Listed (t : Said) (xs : List Mark) (w : ℕ → Weight) (out : List ℕ) : Type 0 where
    pub rising : IsStrictlyIncreasing out
    pub bad : (i : ℕ) → among i out ≡ true → Any (λ x. (x.0 ≡ i) × (m.good t x.0 x.1 ≡ false)) xs
    pub all : m.separate t xs w → (i : ℕ) → Any (λ x. (x.0 ≡ i) × (m.good t x.0 x.1 ≡ false)) xs → among i out ≡ true

  -- why verify_attestations is refused: a long message, then too many attestations, then too little room
  abbrev pub refusal : Said → List Mark → ℕ → Option Refusal
  refusal t xs space =
      cond (nat_lt max_message (length t.message)) (Some (TooMany max_message))
      (cond (nat_lt max_attestations (length xs)) (Some (TooMany max_attestations))
      (cond (nat_lt space (length xs)) (Some (SmallBuffer (length xs))) None))

  abbrev pub Verified : Said → List Mark → (ℕ → Weight) → (ℕ → Weight) → List ℕ → List ℕ → List Mark → List Mark → Result Verification Refusal → Type 0
  Verified t xs w w' listing listing' kept kept' (Ok v) =
      (refusal t xs (min (length listing) (length kept)) ≡ None)
      × Listed t xs w (take v.invalid listing') × (v.invalid ≤ length listing) × (drop v.invalid listing' ≡ drop v.invalid listing)
      × (take v.verified kept' ≡ without (take v.invalid listing') xs) × (v.verified ≤ length kept) × (drop v.verified kept' ≡ drop v.verified kept)
      × ((k : ℕ) → w' k ≡ w (k + m.draws xs))
  Verified t xs w w' listing listing' kept kept' (Err e) =
      (refusal t xs (min (length listing) (length kept)) ≡ Some e) × (listing' ≡ listing) × (kept' ≡ kept) × ((k : ℕ) → w' k ≡ w k)

  -- marks that can be assembled, but for the quorum
  pub record Proper (xs : List Mark) : Type 0 where
    pub sound : first_fault xs ≡ None
    pub single : has_repeat (signers xs) ≡ false

  abbrev pub Good : Said → List Mark → Type 0
  Good t xs = All (λ x. m.good t x.0 x.1 ≡ true) xs

  pub record Laws : Type 0 where
    pub some : 1 ≤ m.judging.members
    pub few : m.judging.members ≤ max_members
    pub enough : 1 ≤ m.quorum
    pub possible : m.quorum ≤ m.judging.members
    pub narrow : m.width ≤ max_signature
    pub wide : (s : List ℕ) → m.decodes s ≡ true → length s ≡ m.width
    pub known : (t : Said) (i : ℕ) (s : List ℕ) → m.good t i s ≡ true → i < m.judging.members
    pub decoded : (t : Said) (i : ℕ) (s : List ℕ) → m.good t i s ≡ true → m.decodes s ≡ true
    pub plain : (t : Said) (xs : List Mark) (w : ℕ → Weight) → Good t xs → m.separate t xs w
    pub short : (xs : List Mark) → Proper xs → m.quorum ≤ length xs → length (m.written (m.assembled xs)) ≤ m.max_size
    pub round : (xs : List Mark) → Proper xs → m.quorum ≤ length xs → m.judging.reads m.judging.members (m.written (m.assembled xs)) ≡ Ok (m.assembled xs)
    pub names : (xs : List Mark) → Proper xs → m.quorum ≤ length xs → (i : ℕ) → among i (named (m.assembled xs)) ≡ among i (signers xs)
    pub accepts : (t : Said) (xs : List Mark) → Proper xs → m.quorum ≤ length xs → Good t xs → m.judging.accepted t (m.assembled xs) ≡ true
    pub apart : (t : Said) (xs ys : List Mark) → Proper xs → Proper ys → IsStrictlyIncreasing (signers xs) → IsStrictlyIncreasing (signers ys) → m.quorum ≤ length xs → m.quorum ≤ length ys
        → Good t xs → Good t ys → m.assembled xs ≡ m.assembled ys → xs ≡ ys
