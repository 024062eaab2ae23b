-- Documents as contracts see them: texts are lists of bytes, digests lists of 32 bytes, moments seconds
-- since 1970-01-01T00:00:00Z. (TUF 1.0, sections 4.3 to 4.6; in-toto 1.0, sections 4.3 and 4.4.)
use Rattle.std.specs.Prelude.{ℕ, List, Bool, Option}
use Rattle.keys_roles.specs.Plain.{Table, RoleRule, Signature}
use Rattle.document_parts.specs.Links.{Link}
use Rattle.document_parts.specs.Rules.{ArtifactRule}

-- what a file says of another: its version, and its length and digest where these are given
pub record MetaFile : Type 0 where
  pub version : ℕ
  pub len : Option ℕ
  pub digest : Option (List ℕ)

-- what a root means: that of the second profile may require layouts
pub data Profile : Type 0 where
  first_profile : Profile
  second_profile : Profile

-- the patterns of the paths that need a layout, where a root has them
pub record Root : Type 0 where
  pub version : ℕ
  pub expires : ℕ
  pub keys : Table
  pub root : RoleRule
  pub targets : RoleRule
  pub snapshot : RoleRule
  pub timestamp : RoleRule
  pub profile : Profile
  pub required : Option (List (List ℕ))

pub record Timestamp : Type 0 where
  pub version : ℕ
  pub expires : ℕ
  pub snapshot : MetaFile

-- roles with what is said of them
pub record Snapshot : Type 0 where
  pub version : ℕ
  pub expires : ℕ
  pub meta : List (List ℕ × MetaFile)

-- the layout that a target refers to
pub record LayoutReference : Type 0 where
  pub owners : RoleRule
  pub keys : Table
  pub links : List (List ℕ)
  pub path : List ℕ
  pub product : List ℕ
  pub step : List ℕ

pub record Listing : Type 0 where
  pub path : List ℕ
  pub len : ℕ
  pub digest : List ℕ
  pub layout : Option LayoutReference

pub data Scope : Type 0 where
  patterns : List (List ℕ) → Scope
  prefixes : List (List ℕ) → Scope

pub record Delegation : Type 0 where
  pub name : List ℕ
  pub rule : RoleRule
  pub terminating : Bool
  pub scope : Scope

-- delegations in order, with their keys
pub record Delegations : Type 0 where
  pub keys : Table
  pub roles : List Delegation

pub record Targets : Type 0 where
  pub version : ℕ
  pub expires : ℕ
  pub targets : List Listing
  pub delegations : Option Delegations

-- a step of a layout: whose links count and how many keys it takes, and what its link's materials and products must keep to
pub record Step : Type 0 where
  pub name : List ℕ
  pub rule : RoleRule
  pub materials : List ArtifactRule
  pub products : List ArtifactRule

-- steps in order, and the keys that their rules name
pub record Layout : Type 0 where
  pub expires : ℕ
  pub keys : Table
  pub steps : List Step

pub data Body : Type 0 where
  root : Root → Body
  timestamp : Timestamp → Body
  snapshot : Snapshot → Body
  targets : Targets → Body
  layout : Layout → Body
  link : Link → Body

-- a file: its signatures, the bytes that they are over, and what these say
pub record Document : Type 0 where
  pub entries : List Signature
  pub signed : List ℕ
  pub body : Body
